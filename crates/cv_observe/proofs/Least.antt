-- The signed least of some words, as a fold whose steps may change places.
use Rattle.std.proofs.Common.{◌≡◌, ℕ, suc, ◌+◌, ◌-◌, ◌%◌, ◌^◌, ◌<◌, ◌≤◌, Bool, true, false, cond, ltb, List, [], ◌∷◌, ◌∙◌, Option, Some, None, refl, sym, ap, fold, unwrap_or, ⊎_elim, arith}
use Rattle.std.proofs.lemmas.Bool.{cases_lt}
use Rattle.std.proofs.lemmas.Bool.Decides.{nat_tests}
use Rattle.std.specs.Int.{w32, cast_signed}
use Rattle.std.specs.List.{AllByRecursion}
use Rattle.std.specs.Prelude.{ℤ, pos, negsuc, int_lt}
use Rattle.cv_observe.specs.Kept.{least_of}
use Rattle.cv_runs.specs.Arithmetic.{signed_lt}
use Rattle.cv_runs.specs.Learned.{lesser, signed_least}

-- the place of a word in the signed order
abbrev pub rank : ℕ → ℕ
rank n = cond (ltb n (2 ^ 31)) (n + 2 ^ 31) (n - 2 ^ 31)

is_low : (n : ℕ) → n < 2 ^ 31 → ltb n (2 ^ 31) ≡ true
is_low n h = grind (arith, nat_tests)

is_high : (n : ℕ) → 2 ^ 31 ≤ n → ltb n (2 ^ 31) ≡ false
is_high n h = grind (arith, nat_tests)

cast_low : (n : ℕ) → n < 2 ^ 31 → cast_signed w32 n ≡ pos n
cast_low n h = rw (is_low n h) refl

cast_high : (n : ℕ) → 2 ^ 31 ≤ n → cast_signed w32 n ≡ negsuc (2 ^ 32 - suc n)
cast_high n h = rw (is_high n h) refl

rank_low : (n : ℕ) → n < 2 ^ 31 → rank n ≡ n + 2 ^ 31
rank_low n h = rw (is_low n h) refl

rank_high : (n : ℕ) → 2 ^ 31 ≤ n → rank n ≡ n - 2 ^ 31
rank_high n h = rw (is_high n h) refl

low_low : (a b : ℕ) → ltb a b ≡ ltb (a + 2 ^ 31) (b + 2 ^ 31)
low_low a b = grind (arith, nat_tests)

low_high : (a b : ℕ) → b < 2 ^ 32 → false ≡ ltb (a + 2 ^ 31) (b - 2 ^ 31)
low_high a b h = grind (arith, nat_tests)

high_low : (a b : ℕ) → a < 2 ^ 32 → true ≡ ltb (a - 2 ^ 31) (b + 2 ^ 31)
high_low a b h = grind (arith, nat_tests)

high_high : (a b : ℕ) → a < 2 ^ 32 → b < 2 ^ 32 → 2 ^ 31 ≤ a → 2 ^ 31 ≤ b → ltb (2 ^ 32 - suc b) (2 ^ 32 - suc a) ≡ ltb (a - 2 ^ 31) (b - 2 ^ 31)
high_high a b ha hb la lb = grind (arith, nat_tests)

joined : (a b : ℕ) (y z : ℤ) (m n : ℕ) → cast_signed w32 a ≡ y → cast_signed w32 b ≡ z → rank a ≡ m → rank b ≡ n → int_lt y z ≡ ltb m n → signed_lt a b ≡ ltb (rank a) (rank b)
joined a b y z m n ca cb ra rb step =
    ap (λ t. int_lt t (cast_signed w32 b)) ca ∙ ap (λ t. int_lt y t) cb
    ∙ step
    ∙ sym (ap (λ t. ltb t (rank b)) ra ∙ ap (λ t. ltb m t) rb)

pub signed_lt_is : (a b : ℕ) → a < 2 ^ 32 → b < 2 ^ 32 → signed_lt a b ≡ ltb (rank a) (rank b)
signed_lt_is a b ha hb =
    ⊎_elim
    (λ la. ⊎_elim
    (λ lb. joined a b (pos a) (pos b) (a + 2 ^ 31) (b + 2 ^ 31) (cast_low a la) (cast_low b lb) (rank_low a la) (rank_low b lb) (low_low a b))
    (λ gb. joined a b (pos a) (negsuc (2 ^ 32 - suc b)) (a + 2 ^ 31) (b - 2 ^ 31) (cast_low a la) (cast_high b gb) (rank_low a la) (rank_high b gb) (low_high a b hb))
    (cases_lt b (2 ^ 31)))
    (λ ga. ⊎_elim
    (λ lb. joined a b (negsuc (2 ^ 32 - suc a)) (pos b) (a - 2 ^ 31) (b + 2 ^ 31) (cast_high a ga) (cast_low b lb) (rank_high a ga) (rank_low b lb) (high_low a b ha))
    (λ gb. joined a b (negsuc (2 ^ 32 - suc a)) (negsuc (2 ^ 32 - suc b)) (a - 2 ^ 31) (b - 2 ^ 31) (cast_high a ga) (cast_high b gb) (rank_high a ga) (rank_high b gb) (high_high a b ha hb ga gb))
    (cases_lt b (2 ^ 31)))
    (cases_lt a (2 ^ 31))

rank_same : (a b : ℕ) → a < 2 ^ 32 → b < 2 ^ 32 → rank a ≡ rank b → a ≡ b
rank_same a b ha hb same =
    ⊎_elim
    (λ la. ⊎_elim
    (λ lb. let p = rank_low a la in let q = rank_low b lb in omega arith)
    (λ gb. let p = rank_low a la in let q = rank_high b gb in omega arith)
    (cases_lt b (2 ^ 31)))
    (λ ga. ⊎_elim
    (λ lb. let p = rank_high a ga in let q = rank_low b lb in omega arith)
    (λ gb. let p = rank_high a ga in let q = rank_high b gb in omega arith)
    (cases_lt b (2 ^ 31)))
    (cases_lt a (2 ^ 31))

below : (m n : ℕ) → m < n → ltb m n ≡ true
below m n h = grind (arith, nat_tests)

not_below : (m n : ℕ) → n ≤ m → ltb m n ≡ false
not_below m n h = grind (arith, nat_tests)

module _ (a b : ℕ) (ha : a < 2 ^ 32) (hb : b < 2 ^ 32) where
  second : rank b < rank a → lesser a b ≡ b
  second h = ap (λ (t : Bool). cond t b a) (signed_lt_is b a hb ha ∙ below (rank b) (rank a) h)

  first : rank a ≤ rank b → lesser a b ≡ a
  first h = ap (λ (t : Bool). cond t b a) (signed_lt_is b a hb ha ∙ not_below (rank b) (rank a) h)

pub lesser_flips : (a b : ℕ) → a < 2 ^ 32 → b < 2 ^ 32 → lesser a b ≡ lesser b a
lesser_flips a b ha hb =
    ⊎_elim
    (λ up. first a b ha hb (omega arith) ∙ sym (second b a hb ha up))
    (λ down. ⊎_elim
    (λ more. second a b ha hb more ∙ sym (first b a hb ha (omega arith)))
    (λ less. let e : a ≡ b = rank_same a b ha hb (omega arith) in rw e refl)
    (cases_lt (rank b) (rank a)))
    (cases_lt (rank a) (rank b))

pub lesser_lesser : (s a b : ℕ) → s < 2 ^ 32 → a < 2 ^ 32 → b < 2 ^ 32 → lesser (lesser s a) b ≡ lesser (lesser s b) a
lesser_lesser s a b hs ha hb =
    ⊎_elim
    (λ al. ⊎_elim
    (λ bl. ap (λ t. lesser t b) (second s a hs ha al) ∙ lesser_flips a b ha hb ∙ sym (ap (λ t. lesser t a) (second s b hs hb bl)))
    (λ bg. ap (λ t. lesser t b) (second s a hs ha al) ∙ first a b ha hb (omega arith) ∙ sym (ap (λ t. lesser t a) (first s b hs hb bg) ∙ second s a hs ha al))
    (cases_lt (rank b) (rank s)))
    (λ ag. ⊎_elim
    (λ bl. ap (λ t. lesser t b) (first s a hs ha ag) ∙ second s b hs hb bl ∙ sym (ap (λ t. lesser t a) (second s b hs hb bl) ∙ first b a hb ha (omega arith)))
    (λ bg. ap (λ t. lesser t b) (first s a hs ha ag) ∙ first s b hs hb bg ∙ sym (ap (λ t. lesser t a) (first s b hs hb bg) ∙ first s a hs ha ag))
    (cases_lt (rank b) (rank s)))
    (cases_lt (rank a) (rank s))

-- the least so far, of numbers that are cut to words
abbrev word : ℕ → ℕ
word n = n % 2 ^ 32

abbrev pub least_so_far : Option ℕ → ℕ → Option ℕ
least_so_far None x = Some (word x)
least_so_far (Some s) x = Some (lesser (word s) (word x))

word_below : (n : ℕ) → word n < 2 ^ 32
word_below n = omega arith

word_same : (n : ℕ) → n < 2 ^ 32 → word n ≡ n
word_same n h = omega arith

chosen_below : (t : Bool) (a b : ℕ) → a < 2 ^ 32 → b < 2 ^ 32 → cond t b a < 2 ^ 32
chosen_below true a b ha hb = hb
chosen_below false a b ha hb = ha

lesser_below : (a b : ℕ) → a < 2 ^ 32 → b < 2 ^ 32 → lesser a b < 2 ^ 32
lesser_below a b ha hb = chosen_below (signed_lt b a) a b ha hb

pub least_flips : (s : Option ℕ) (a b : ℕ) → least_so_far (least_so_far s a) b ≡ least_so_far (least_so_far s b) a
least_flips None a b =
    ap (λ t. Some (lesser t (word b))) (word_same (word a) (word_below a))
    ∙ ap Some (lesser_flips (word a) (word b) (word_below a) (word_below b))
    ∙ sym (ap (λ t. Some (lesser t (word a))) (word_same (word b) (word_below b)))
least_flips (Some s) a b =
    ap (λ t. Some (lesser t (word b))) (word_same (lesser (word s) (word a)) (lesser_below (word s) (word a) (word_below s) (word_below a)))
    ∙ ap Some (lesser_lesser (word s) (word a) (word b) (word_below s) (word_below a) (word_below b))
    ∙ sym (ap (λ t. Some (lesser t (word a))) (word_same (lesser (word s) (word b)) (lesser_below (word s) (word b) (word_below s) (word_below b))))

least_from : (s : ℕ) (xs : List ℕ) → s < 2 ^ 32 → AllByRecursion (λ v. v < 2 ^ 32) xs → Some (fold lesser s xs) ≡ fold least_so_far (Some s) xs
least_from s [] hs all = refl
least_from s (x ∷ xs) hs all =
    least_from (lesser s x) xs (lesser_below s x hs all.0) all.1
    ∙ ap (λ t. fold least_so_far (Some t) xs) (sym (ap (λ t. lesser t (word x)) (word_same s hs) ∙ ap (λ t. lesser s t) (word_same x all.0)))

pub least_is : (xs : List ℕ) → AllByRecursion (λ v. v < 2 ^ 32) xs → least_of xs ≡ fold least_so_far None xs
least_is [] all = refl
least_is (x ∷ xs) all = least_from x xs all.0 all.1 ∙ ap (λ t. fold least_so_far (Some t) xs) (sym (word_same x all.0))

pub signed_least_is : (xs : List ℕ) → AllByRecursion (λ v. v < 2 ^ 32) xs → signed_least xs ≡ unwrap_or (fold least_so_far None xs) 0
signed_least_is xs all = ap (λ t. unwrap_or t 0) (least_is xs all)
