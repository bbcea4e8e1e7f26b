-- One step of the loops over rows, bytes and lines.
use Rattle.std.proofs.Common.{◌≡◌, ℕ, ◌+◌, ◌-◌, ◌*◌, ◌≤◌, true, false, cond, List, [], ◌∷◌, ◌++◌, ◌∙◌, Option, Some, None, length, take, drop, get_or, refl, sym, ap, arith, append_assoc}
use Rattle.std.specs.Prelude.{option_map, take_while, Result, Ok, Err}
use Rattle.std.proofs.lemmas.List.{append-nil, take_all}
use Rattle.std.proofs.lemmas.List.Sums.{take_while-cons}
use Rattle.cv_base.specs.declared.entries.Entry.{Entry}
use Rattle.cv_journal.specs.declared.faults.JournalFault.{JournalFault}
use Rattle.cv_journal.specs.declared.faults.JournalFault.TheVariants.{BadEntry}
use Rattle.cv_journal.specs.EntryReading.{entry_in}
use Rattle.cv_journal.specs.JournalOf.{begins_entry, entries_from, with_first}
use Rattle.cv_journal.specs.Reading.{both, byte_pairs, each, hex_digit}
use Rattle.cv_journal.specs.Steps.{prepended, read_before}

-- ---- rows

pub nothing_before : {A : Type 0} (o : Option (List A)) → prepended [] o ≡ o
nothing_before None = refl
nothing_before (Some xs) = refl

pub nothing_behind : {A : Type 0} (done : List A) → prepended done (Some []) ≡ Some done
nothing_behind done = ap (λ l. Some l) (append-nil done)

one_more : {A : Type 0} (done : List A) (x : A) (rest : Option (List A)) → prepended (done ++ x ∷ []) rest ≡ prepended done (option_map (λ (q : A × List A). q.0 ∷ q.1) (both (Some x) rest))
one_more done x None = refl
one_more done x (Some xs) = ap (λ l. Some l) (append_assoc done (x ∷ []) xs)

pub row_more : {A : Type 0} (read : List ℕ → Option A) (done : List A) (x : A) (item : List ℕ) (ps whole : List (List ℕ)) → whole ≡ item ∷ ps → Some x ≡ read item
    → prepended (done ++ x ∷ []) (each read ps) ≡ prepended done (each read whole)
row_more {A} read done x item ps whole cut is =
    one_more done x (each read ps)
    ∙ ap (λ o. prepended done (option_map (λ (q : A × List A). q.0 ∷ q.1) (both o (each read ps)))) is
    ∙ ap (λ l. prepended done (each read l)) (sym cut)

pub row_none : {A : Type 0} (read : List ℕ → Option A) (done : List A) (item : List ℕ) (ps whole : List (List ℕ)) → whole ≡ item ∷ ps → None ≡ read item
    → prepended done (each read whole) ≡ None
row_none {A} read done item ps whole cut is =
    ap (λ l. prepended done (each read l)) cut
    ∙ ap (λ o. prepended done (option_map (λ (q : A × List A). q.0 ∷ q.1) (both o (each read ps)))) (sym is)

-- ---- bytes

abbrev pub byte_of : ℕ → ℕ → Option ℕ
byte_of a b = option_map (λ (p : ℕ × ℕ). 16 * p.0 + p.1) (both (hex_digit 97 a) (hex_digit 97 b))

byte_first : (high low : Option ℕ) (rest : Option (List ℕ)) (b : ℕ) → Some b ≡ option_map (λ (p : ℕ × ℕ). 16 * p.0 + p.1) (both high low)
    → option_map (λ (p : (ℕ × ℕ) × List ℕ). (16 * p.0.0 + p.0.1) ∷ p.1) (both (both high low) rest) ≡ option_map (λ (q : ℕ × List ℕ). q.0 ∷ q.1) (both (Some b) rest)
byte_first (Some h) (Some l) None b is = refl
byte_first (Some h) (Some l) (Some xs) b is = ap (option_map (λ n. n ∷ xs)) (sym is)
byte_first (Some h) None rest b is = absurd (cc)
byte_first None low rest b is = absurd (cc)

byte_missing : (high low : Option ℕ) (rest : Option (List ℕ)) → None ≡ option_map (λ (p : ℕ × ℕ). 16 * p.0 + p.1) (both high low)
    → option_map (λ (p : (ℕ × ℕ) × List ℕ). (16 * p.0.0 + p.0.1) ∷ p.1) (both (both high low) rest) ≡ None
byte_missing (Some h) (Some l) rest is = absurd (cc)
byte_missing (Some h) None rest is = refl
byte_missing None low rest is = refl

front_two : (s : List ℕ) → 2 ≤ length s → s ≡ get_or s 0 0 ∷ get_or s 1 0 ∷ take (length s - 2) (drop 2 s)
front_two [] two = absurd (omega arith)
front_two (a ∷ []) two = absurd (omega arith)
front_two (a ∷ b ∷ rest) two =
    let same : length (a ∷ b ∷ rest) - 2 ≡ length rest = omega arith in
    ap (λ l. a ∷ b ∷ l) (sym (ap (λ n. take n rest) same ∙ take_all (length rest) rest (omega arith)))

pub byte_more : (done : List ℕ) (b : ℕ) (s : List ℕ) → 2 ≤ length s → Some b ≡ byte_of (get_or s 0 0) (get_or s 1 0)
    → prepended (done ++ b ∷ []) (byte_pairs (take (length s - 2) (drop 2 s))) ≡ prepended done (byte_pairs s)
byte_more done b s two byte =
    one_more done b (byte_pairs (take (length s - 2) (drop 2 s)))
    ∙ ap (prepended done) (sym (byte_first (hex_digit 97 (get_or s 0 0)) (hex_digit 97 (get_or s 1 0)) (byte_pairs (take (length s - 2) (drop 2 s))) b byte))
    ∙ ap (λ l. prepended done (byte_pairs l)) (sym (front_two s two))

pub byte_none : (done : List ℕ) (s : List ℕ) → 2 ≤ length s → None ≡ byte_of (get_or s 0 0) (get_or s 1 0) → prepended done (byte_pairs s) ≡ None
byte_none done s two none =
    ap (λ l. prepended done (byte_pairs l)) (front_two s two)
    ∙ ap (prepended done) (byte_missing (hex_digit 97 (get_or s 0 0)) (hex_digit 97 (get_or s 1 0)) (byte_pairs (take (length s - 2) (drop 2 s))) none)

-- ---- lines

pub no_entry_before : (r : Result (List Entry) JournalFault) → read_before [] r ≡ r
no_entry_before (Ok es) = refl
no_entry_before (Err f) = refl

pub no_entry_behind : (done : List Entry) → read_before done (Ok []) ≡ Ok done
no_entry_behind done = ap (λ l. Ok l) (append-nil done)

entry_step : (k : ℕ) (done : List Entry) (e : Entry) (rest : Result (List Entry) JournalFault) → read_before (done ++ e ∷ []) rest ≡ read_before done (with_first (Some e) k rest)
entry_step k done e (Ok es) = ap (λ l. Ok l) (append_assoc done (e ∷ []) es)
entry_step k done e (Err f) = refl

begun : (line : List ℕ) (ps whole : List (List ℕ)) → whole ≡ line ∷ ps → begins_entry line ≡ true → take_while begins_entry whole ≡ line ∷ take_while begins_entry ps
begun line ps whole is begins =
    ap (take_while begins_entry) is ∙ take_while-cons begins_entry line ps ∙ ap (λ b. cond b (line ∷ take_while begins_entry ps) []) begins

pub entry_more : (k : ℕ) (done : List Entry) (e : Entry) (line : List ℕ) (ps whole : List (List ℕ)) → whole ≡ line ∷ ps → begins_entry line ≡ true → Some e ≡ entry_in k line
    → read_before (done ++ e ∷ []) (entries_from (k + 1) (take_while begins_entry ps)) ≡ read_before done (entries_from k (take_while begins_entry whole))
entry_more k done e line ps whole is begins read =
    entry_step k done e (entries_from (k + 1) (take_while begins_entry ps))
    ∙ ap (λ o. read_before done (with_first o k (entries_from (k + 1) (take_while begins_entry ps)))) read
    ∙ ap (λ l. read_before done (entries_from k l)) (sym (begun line ps whole is begins))

pub entry_none : (k : ℕ) (done : List Entry) (line : List ℕ) (ps whole : List (List ℕ)) → whole ≡ line ∷ ps → begins_entry line ≡ true → None ≡ entry_in k line
    → read_before done (entries_from k (take_while begins_entry whole)) ≡ Err (BadEntry k)
entry_none k done line ps whole is begins none =
    ap (λ l. read_before done (entries_from k l)) (begun line ps whole is begins)
    ∙ ap (λ o. read_before done (with_first o k (entries_from (k + 1) (take_while begins_entry ps)))) (sym none)

pub entries_end : (k : ℕ) (done : List Entry) (line : List ℕ) (ps whole : List (List ℕ)) → whole ≡ line ∷ ps → begins_entry line ≡ false
    → read_before done (entries_from k (take_while begins_entry whole)) ≡ Ok done
entries_end k done line ps whole is begins =
    ap (λ l. read_before done (entries_from k l)) (ap (take_while begins_entry) is ∙ take_while-cons begins_entry line ps ∙ ap (λ b. cond b (line ∷ take_while begins_entry ps) []) begins)
    ∙ no_entry_behind done
