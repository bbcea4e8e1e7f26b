-- The first definition of each label, one line after another.
use Rattle.std.proofs.Common.{◌≡◌, ℕ, ◌+◌, ◌*◌, ◌<◌, ◌≤◌, Bool, true, false, cond, not, ◌||◌, nat_lt, zero, suc, List, [], ◌∷◌, ◌++◌, length, take, get_or, Option, Some, None, refl, sym, ap, ◌∙◌, arith, add-one, length-append, length-take, min}
use Rattle.std.proofs.Math.Path.{fun_ext}
use Rattle.std.proofs.Math.Seq.{take-append_seam, take-suc}
use Rattle.std.proofs.lemmas.Bool.Decides.{nat_tests}
use Rattle.std.proofs.lemmas.List.{length-map, take-append-le, map-append}
use Rattle.std.proofs.lemmas.List.Folds.{position_or_len_push}
use Rattle.std.proofs.lemmas.List.Quantifiers.{position-Some}
use Rattle.std.proofs.lemmas.List.Sums.{prefix_len-le-length, sum_by-append}
use Rattle.std.proofs.lemmas.Slice.Eq.{bytes_eq-Decides}
use Rattle.std.specs.Bool.{nat_eq}
use Rattle.std.specs.BTreeMap.{BTreeMap}
use Rattle.std.specs.Borrow.{Bor}
use Rattle.std.specs.List.{list_any, position, position_or_len}
use Rattle.std.specs.Option.{is_some, option_map, option_map_or}
use Rattle.std.specs.Str.{bytes_eq}
use Rattle.cv_asm.specs.declared.labels.Definition.{Definition}
use Rattle.cv_asm.specs.Labels.{AreLabels, definition_at, definition_in, found_in, found_or, is_earlier, place_by, read_lines}
use Rattle.cv_asm.specs.Lines.{Line, defines, instructions, line_of, place_in}
use Rattle.cv_asm.specs.Results.{only_where}
use Rattle.cv_asm.specs.Source.{is_defined}

-- ---- a definition put in where there is none

put_at : (find : List ℕ → Option Definition) (label wanted : List ℕ) (d : Definition) (same back : Bool) → (same ≡ true → wanted ≡ label) → same ≡ back → is_some (find label) ≡ false → cond same (Some d) (find wanted) ≡ found_or (find wanted) back d
put_at find label wanted d true back equal is none = none_there (find wanted) back (sym is) (ap (λ q. is_some (find q)) (equal refl) ∙ none)
  where
    none_there : (o : Option Definition) (b : Bool) → b ≡ true → is_some o ≡ false → Some d ≡ found_or o b d
    none_there None b passes absent = ap (λ t. only_where t d) (sym passes)
    none_there (Some e) b passes absent = cc
put_at find label wanted d false back equal is none = left (find wanted) back (sym is)
  where
    left : (o : Option Definition) (b : Bool) → b ≡ false → o ≡ found_or o b d
    left None b fails = ap (λ t. only_where t d) (sym fails)
    left (Some e) b fails = refl

eq_back : (xs ys : List ℕ) (b c : Bool) → (b ≡ true → xs ≡ ys) × (xs ≡ ys → b ≡ true) → (c ≡ true → ys ≡ xs) × (ys ≡ xs → c ≡ true) → b ≡ c
eq_back xs ys true c first second = sym (second.1 (sym (first.0 refl)))
eq_back xs ys false true first second = first.1 (sym (second.0 refl))
eq_back xs ys false false first second = refl

pub put_in : (find : List ℕ → Option Definition) (label wanted : List ℕ) (d : Definition) → is_some (find label) ≡ false → cond (bytes_eq label wanted) (Some d) (find wanted) ≡ found_or (find wanted) (bytes_eq wanted label) d
put_in find label wanted d none = put_at find label wanted d (bytes_eq label wanted) (bytes_eq wanted label) (λ t. sym ((bytes_eq-Decides label wanted).0 t)) (eq_back label wanted _ _ (bytes_eq-Decides label wanted) (bytes_eq-Decides wanted label)) none

-- ---- positions in a list with one more

first_or : Option ℕ → Bool → ℕ → Option ℕ
first_or (Some i) passes long = Some i
first_or None passes long = cond passes (Some long) None

abbrev first_at : ℕ → ℕ → Option ℕ
first_at at long = cond (nat_lt at long) (Some at) None

pushed : (at long : ℕ) (passes below same : Bool) → nat_lt at long ≡ below → nat_eq at long ≡ same → at ≤ long
    → first_at (cond same (long + cond passes 0 1) at) (long + 1) ≡ first_or (first_at at long) passes long
unfolding first_or
pushed at long true true true lt eq le = absurd (grind (arith, nat_tests))
pushed at long false true true lt eq le = absurd (grind (arith, nat_tests))
pushed at long passes true false lt eq le =
    let later : nat_lt at (long + 1) ≡ true = grind (arith, nat_tests) in
    ap (λ b. cond b (Some at) None) later ∙ sym (ap (λ b. first_or (cond b (Some at) None) passes long) lt)
pushed at long true false true lt eq le =
    let here : nat_lt (long + 0) (long + 1) ≡ true = grind (arith, nat_tests) in
    let same : long + 0 ≡ long = omega arith in
    ap (λ b. cond b (Some (long + 0)) None) here ∙ ap Some same ∙ sym (ap (λ b. first_or (cond b (Some at) None) true long) lt)
pushed at long false false true lt eq le =
    let behind : nat_lt (long + 1) (long + 1) ≡ false = grind (arith, nat_tests) in
    ap (λ b. cond b (Some (long + 1)) None) behind ∙ sym (ap (λ b. first_or (cond b (Some at) None) false long) lt)
pushed at long true false false lt eq le = absurd (grind (arith, nat_tests))
pushed at long false false false lt eq le = absurd (grind (arith, nat_tests))

position_push : {X : Type 0} (p : X → Bool) (xs : List X) (x : X) → position p (xs ++ x ∷ []) ≡ first_or (position p xs) (p x) (length xs)
position_push p xs x =
    let long : length (xs ++ x ∷ []) ≡ length xs + 1 = simp length-append (omega arith) in
    let le : position_or_len p xs ≤ length xs = prefix_len-le-length (λ y. not (p y)) xs in
    ap (λ n. first_at (position_or_len p (xs ++ x ∷ [])) n) long
    ∙ ap (λ n. first_at n (length xs + 1)) (position_or_len_push p xs x)
    ∙ pushed (position_or_len p xs) (length xs) (p x) (nat_lt (position_or_len p xs) (length xs)) (nat_eq (position_or_len p xs) (length xs)) refl refl le

position_within : {X : Type 0} (p : X → Bool) (xs : List X) (i : ℕ) → position p xs ≡ Some i → i < length xs
position_within p [] i is = absurd (cc)
position_within p (x ∷ xs) i is = (position-Some p (x ∷ xs) i x is).0

-- ---- definitions in lines with one more

more_by : (xs : List Line) (x : Line) (o : Option ℕ) (b : Bool) → ((i : ℕ) → o ≡ Some i → i < length xs)
    → option_map (definition_at (xs ++ x ∷ [])) (first_or o b (length xs)) ≡ found_or (option_map (definition_at xs) o) b (record { line = length xs; place = 4 * instructions xs })
unfolding first_or
more_by xs x (Some i) b within =
    let inside : i ≤ length xs = omega (arith, within i refl) in
    ap (λ (ys : List Line). Some (record { line = i; place = 4 * instructions ys })) (take-append-le i xs (x ∷ []) inside)
more_by xs x None true within = ap (λ (ys : List Line). Some (record { line = length xs; place = 4 * instructions ys })) (take-append_seam xs (x ∷ []))
more_by xs x None false within = refl

definition_push : (xs : List Line) (x : Line) (label : List ℕ) → definition_in (xs ++ x ∷ []) label ≡ found_or (definition_in xs label) (defines label x) (record { line = length xs; place = 4 * instructions xs })
definition_push xs x label =
    ap (option_map (definition_at (xs ++ x ∷ []))) (position_push (defines label) xs x)
    ∙ more_by xs x (position (defines label) xs) (defines label x) (position_within (defines label) xs)

-- one line more
pub more_labels : (lines : List (Bor (List ℕ))) (i before : ℕ) (line : Bor (List ℕ)) (old new : BTreeMap (Bor (List ℕ)) Definition)
    → i < length lines → line ≡ get_or lines i line
    → AreLabels (read_lines (take i lines)) old → before ≡ instructions (read_lines (take i lines))
    → ((label : List ℕ) → found_in new label ≡ found_or (found_in old label) (defines label (line_of line.now)) (record { line = i; place = 4 * before }))
    → AreLabels (read_lines (take (i + 1) lines)) new
more_labels lines i before line old new within read known counted put label =
    let long : length (read_lines (take i lines)) ≡ i = simp (length-map, length-take) (omega arith) in
    put label
    ∙ ap (λ (o : Option Definition). found_or o (defines label (line_of line.now)) (record { line = i; place = 4 * before })) (known label)
    ∙ ap (λ n. found_or (definition_in (read_lines (take i lines)) label) (defines label (line_of line.now)) (record { line = n; place = 4 * before })) (sym long)
    ∙ ap (λ n. found_or (definition_in (read_lines (take i lines)) label) (defines label (line_of line.now)) (record { line = length (read_lines (take i lines)); place = 4 * n })) counted
    ∙ sym (definition_push (read_lines (take i lines)) (line_of line.now) label)
    ∙ sym (ap (λ (ls : List Line). definition_in ls label) (read_more lines i line within read))
  where
    read_more : (ls : List (Bor (List ℕ))) (j : ℕ) (l : Bor (List ℕ)) → j < length ls → l ≡ get_or ls j l → read_lines (take (j + 1) ls) ≡ read_lines (take j ls) ++ line_of l.now ∷ []
    read_more ls j l inside is = ap read_lines (ap (λ n. take n ls) (add-one j) ∙ take-suc ls j l inside ∙ ap (λ (m : Bor (List ℕ)). take j ls ++ m ∷ []) (sym is)) ∙ map-append (λ (m : Bor (List ℕ)). line_of m.now) (take j ls) (l ∷ [])

pub instructions_push : (xs : List Line) (x : Line) → instructions (xs ++ x ∷ []) ≡ instructions xs + cond (nat_lt 0 (length x.code)) 1 0
instructions_push xs x =
    let both : instructions (xs ++ x ∷ []) ≡ instructions xs + instructions (x ∷ []) = sum_by-append (λ (y : Line). cond (nat_lt 0 (length y.code)) 1 0) xs (x ∷ []) in
    let one : instructions (x ∷ []) ≡ cond (nat_lt 0 (length x.code)) 1 0 = omega arith in
    both ∙ ap (λ n. instructions xs + n) one

pub instructions_more : (lines : List (Bor (List ℕ))) (i : ℕ) (line : Bor (List ℕ)) → i < length lines → line ≡ get_or lines i line
    → instructions (read_lines (take (i + 1) lines)) ≡ instructions (read_lines (take i lines)) + cond (nat_lt 0 (length (line_of line.now).code)) 1 0
instructions_more lines i line within read =
    ap instructions (ap read_lines (ap (λ n. take n lines) (add-one i) ∙ take-suc lines i line within ∙ ap (λ (m : Bor (List ℕ)). take i lines ++ m ∷ []) (sym read)) ∙ map-append (λ (m : Bor (List ℕ)). line_of m.now) (take i lines) (line ∷ []))
    ∙ instructions_push (read_lines (take i lines)) (line_of line.now)

-- ---- what the map says is what the lines say

pub places_are : (lines : List Line) (labels : BTreeMap (Bor (List ℕ)) Definition) → AreLabels lines labels → place_by labels ≡ place_in lines
places_are lines labels known = fun_ext (λ label. ap (option_map (λ (d : Definition). d.place)) (known label) ∙ place_at (position (defines label) lines))
  where
    place_at : (o : Option ℕ) → option_map (λ (d : Definition). d.place) (option_map (definition_at lines) o) ≡ option_map (λ i. 4 * instructions (take i lines)) o
    place_at None = refl
    place_at (Some i) = refl

same_tests : (s t : Bool) (a b c d : ℕ) → nat_lt a b ≡ s → nat_lt c d ≡ t → (a < b → c < d) → (c < d → a < b) → s ≡ t
same_tests true true a b c d first second to back = refl
same_tests false false a b c d first second to back = refl
same_tests true false a b c d first second to back = absurd (grind (arith, nat_tests))
same_tests false true a b c d first second to back = absurd (grind (arith, nat_tests))

any_by : (b rest : Bool) (at i n : ℕ) → rest ≡ nat_lt at (min i n) → (b || rest) ≡ nat_lt (cond (not b) (1 + at) 0) (min (suc i) (suc n))
any_by true rest at i n is = sym (same_tests (nat_lt 0 (min (suc i) (suc n))) true 0 (min (suc i) (suc n)) 0 1 refl refl (λ _. omega arith) (λ _. omega arith))
any_by false rest at i n is = is ∙ same_tests (nat_lt at (min i n)) (nat_lt (1 + at) (min (suc i) (suc n))) at (min i n) (1 + at) (min (suc i) (suc n)) refl refl (λ h. omega arith) (λ h. omega arith)

any_before : {X : Type 0} (p : X → Bool) (xs : List X) (i : ℕ) → list_any p (take i xs) ≡ nat_lt (position_or_len p xs) (min i (length xs))
any_before p [] zero = refl
any_before p [] (suc i) = same_tests false (nat_lt 0 (min (suc i) 0)) 0 0 0 (min (suc i) 0) refl refl (λ h. omega arith) (λ h. omega arith)
any_before p (x ∷ xs) zero = same_tests false (nat_lt (position_or_len p (x ∷ xs)) (min 0 (length (x ∷ xs)))) 0 0 (position_or_len p (x ∷ xs)) (min 0 (length (x ∷ xs))) refl refl (λ h. omega arith) (λ h. omega arith)
any_before p (x ∷ xs) (suc i) = any_by (p x) (list_any p (take i xs)) (position_or_len p xs) i (length xs) (any_before p xs i)

pub earlier_are : (lines : List Line) (labels : BTreeMap (Bor (List ℕ)) Definition) → AreLabels lines labels → (i : ℕ) → i ≤ length lines → is_earlier labels i ≡ is_defined (take i lines)
earlier_are lines labels known i within = fun_ext (λ label.
    ap (λ (o : Option Definition). option_map_or (λ (d : Definition). nat_lt d.line i) o false) (known label)
    ∙ earlier_at (position_or_len (defines label) lines) (length lines) i within (nat_lt (position_or_len (defines label) lines) (length lines)) refl
    ∙ sym (any_before (defines label) lines i ∙ ap (λ n. nat_lt (position_or_len (defines label) lines) n) (min_is i (length lines) within)))
  where
    min_is : (m n : ℕ) → m ≤ n → min m n ≡ m
    min_is m n le = omega arith

    earlier_at : (at long j : ℕ) → j ≤ long → (b : Bool) → nat_lt at long ≡ b → option_map_or (λ (d : Definition). nat_lt d.line j) (option_map (definition_at lines) (cond b (Some at) None)) false ≡ nat_lt at j
    earlier_at at long j le true lt = refl
    earlier_at at long j le false lt = grind (arith, nat_tests)

-- an element is read with any other value in place of what is not there
pub same_read : (ls : List (Bor (List ℕ))) (i : ℕ) (d e : Bor (List ℕ)) → i < length ls → get_or ls i d ≡ get_or ls i e
same_read [] i d e within = absurd (omega arith)
same_read (x ∷ xs) zero d e within = refl
same_read (x ∷ xs) (suc i) d e within = same_read xs i d e (omega arith)
