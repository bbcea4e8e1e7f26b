-- The words and values of a line, joined and parted again.
use Rattle.std.proofs.Common.{◌≡◌, ℕ, true, List, ◌∷◌, ◌++◌, ◌∙◌, Option, Some, codes, refl, ap}
use Rattle.std.specs.Prelude.{option_and_then, option_map}
use Rattle.cv_journal.specs.EntryReading.{ValuesOf, value_in, values_in}
use Rattle.cv_journal.specs.Reading.{behind, cut}
use Rattle.cv_journal.proofs.CutLaw.{behind_at, behind_back, cut_at, cut_back, lacks}
use Rattle.cv_journal.proofs.ReadBack.{and_then_back, map_back}

value_at : (word value rest : List ℕ) → lacks 32 value ≡ true → value_in word (word ++ (value ++ 32 ∷ rest)) ≡ Some (value, rest)
unfolding value_in
value_at word value rest plain = ap (option_and_then (cut 32)) (behind_at word (value ++ 32 ∷ rest)) ∙ cut_at 32 value rest plain

value_back : (word s : List ℕ) (p : List ℕ × List ℕ) → value_in word s ≡ Some p → s ≡ word ++ (p.0 ++ 32 ∷ p.1)
unfolding value_in
value_back word s p e =
    let found = and_then_back (cut 32) (behind word s) p e in
    behind_back word s found.0 found.1.0 ∙ ap (λ l. word ++ l) (cut_back 32 found.0 p.0 p.1 found.1.1)

-- the line of eleven values
abbrev pub joined : ValuesOf → List ℕ
joined v =
    codes "entry " ++ (v.number ++ 32 ∷ (codes "run " ++ (v.run ++ 32 ∷ (codes "worker " ++ (v.worker ++ 32 ∷ (codes "mode " ++ (v.mode ++ 32
    ∷ (codes "adopted " ++ (v.adopted ++ 32 ∷ (codes "end " ++ (v.end ++ 32 ∷ (codes "turns " ++ (v.turns ++ 32 ∷ (codes "sites " ++ (v.sites ++ 32
    ∷ (codes "output " ++ (v.output ++ 32 ∷ (codes "tally " ++ (v.tally ++ 32 ∷ (codes "fired " ++ v.fired))))))))))))))))))))

-- none but the last has a blank
pub record HasNoBlanks (v : ValuesOf) : Type 0 where
  pub number : lacks 32 v.number ≡ true
  pub run : lacks 32 v.run ≡ true
  pub worker : lacks 32 v.worker ≡ true
  pub mode : lacks 32 v.mode ≡ true
  pub adopted : lacks 32 v.adopted ≡ true
  pub end : lacks 32 v.end ≡ true
  pub turns : lacks 32 v.turns ≡ true
  pub sites : lacks 32 v.sites ≡ true
  pub output : lacks 32 v.output ≡ true
  pub tally : lacks 32 v.tally ≡ true

pub values_forth : (v : ValuesOf) → HasNoBlanks v → values_in (joined v) ≡ Some v
unfolding values_in
values_forth v plain =
    let t10 = codes "fired " ++ v.fired in
    let t9 = codes "tally " ++ (v.tally ++ 32 ∷ t10) in
    let t8 = codes "output " ++ (v.output ++ 32 ∷ t9) in
    let t7 = codes "sites " ++ (v.sites ++ 32 ∷ t8) in
    let t6 = codes "turns " ++ (v.turns ++ 32 ∷ t7) in
    let t5 = codes "end " ++ (v.end ++ 32 ∷ t6) in
    let t4 = codes "adopted " ++ (v.adopted ++ 32 ∷ t5) in
    let t3 = codes "mode " ++ (v.mode ++ 32 ∷ t4) in
    let t2 = codes "worker " ++ (v.worker ++ 32 ∷ t3) in
    let t1 = codes "run " ++ (v.run ++ 32 ∷ t2) in
    rw (value_at (codes "entry ") v.number t1 plain.number, value_at (codes "run ") v.run t2 plain.run, value_at (codes "worker ") v.worker t3 plain.worker, value_at (codes "mode ") v.mode t4 plain.mode, value_at (codes "adopted ") v.adopted t5 plain.adopted, value_at (codes "end ") v.end t6 plain.end, value_at (codes "turns ") v.turns t7 plain.turns, value_at (codes "sites ") v.sites t8 plain.sites, value_at (codes "output ") v.output t9 plain.output, value_at (codes "tally ") v.tally t10 plain.tally, behind_at (codes "fired ") v.fired) refl

-- one value, with what follows from it and the rest; a step at a time, so that terms stay small
one_value : {A : Type 0} (word s : List ℕ) (f : List ℕ × List ℕ → Option A) (y : A) (P : Type 0) → option_and_then f (value_in word s) ≡ Some y
    → ((value rest : List ℕ) → s ≡ word ++ (value ++ 32 ∷ rest) → f (value, rest) ≡ Some y → P) → P
one_value word s f y P e next =
    let found = and_then_back f (value_in word s) y e in
    next found.0.0 found.0.1 (value_back word s found.0 found.1.0) found.1.1

onward : (s word value rest t : List ℕ) → s ≡ word ++ (value ++ 32 ∷ rest) → rest ≡ t → s ≡ word ++ (value ++ 32 ∷ t)
onward s word value rest t is same = is ∙ ap (λ l. word ++ (value ++ 32 ∷ l)) same

last_value : {A : Type 0} (s : List ℕ) (f : List ℕ → A) (y : A) (P : Type 0) → option_map f (behind (codes "fired ") s) ≡ Some y
    → ((value : List ℕ) → s ≡ codes "fired " ++ value → f value ≡ y → P) → P
last_value s f y P e next =
    let found = map_back f (behind (codes "fired ") s) y e in
    next found.0 (behind_back (codes "fired ") s found.0 found.1.0) found.1.1

pub values_back : (line : List ℕ) (v : ValuesOf) → values_in line ≡ Some v → line ≡ joined v
unfolding values_in
values_back line v e =
    one_value _ line _ v _ e (λ number s1 e1 h1.
    one_value _ s1 _ v _ h1 (λ run s2 e2 h2.
    one_value _ s2 _ v _ h2 (λ worker s3 e3 h3.
    one_value _ s3 _ v _ h3 (λ mode s4 e4 h4.
    one_value _ s4 _ v _ h4 (λ adopted s5 e5 h5.
    one_value _ s5 _ v _ h5 (λ end s6 e6 h6.
    one_value _ s6 _ v _ h6 (λ turns s7 e7 h7.
    one_value _ s7 _ v _ h7 (λ sites s8 e8 h8.
    one_value _ s8 _ v _ h8 (λ output s9 e9 h9.
    one_value _ s9 _ v _ h9 (λ tally s10 e10 h10.
    last_value s10 _ v _ h10 (λ fired e11 h11.
    onward line (codes "entry ") number s1 _ e1 (onward s1 (codes "run ") run s2 _ e2 (onward s2 (codes "worker ") worker s3 _ e3 (onward s3 (codes "mode ") mode s4 _ e4 (onward s4 (codes "adopted ") adopted s5 _ e5
    (onward s5 (codes "end ") end s6 _ e6 (onward s6 (codes "turns ") turns s7 _ e7 (onward s7 (codes "sites ") sites s8 _ e8 (onward s8 (codes "output ") output s9 _ e9 (onward s9 (codes "tally ") tally s10 _ e10 e11)))))))))
    ∙ ap joined h11)))))))))))
