-- One more block entry among the versions that a live run has adopted.
use Rattle.std.proofs.Common.{◌≡◌, ◌≢◌, ◌<◌, ◌≤◌, ◌+◌, ◌-◌, ℕ, zero, suc, Bool, true, false, List, [], ◌∷◌, ◌++◌, length, get_or, set, Option, Some, None, refl, sym, ap, ◌∙◌, subst, append_assoc, arith, length-append}
use Rattle.std.specs.Prelude.{◌==◌, if◌then◌else◌, replicate, slice_get, IsSome}
use Rattle.std.specs.List.{AllByRecursion, flat_map}
use Rattle.std.proofs.lemmas.Bool.Decides.{nat_tests}
use Rattle.std.proofs.lemmas.List.{append-nil, length-replicate, replicate-append-replicate}
use Rattle.std.proofs.lemmas.List.Folds.{flat_map-map}
use Rattle.std.proofs.lemmas.Option.{slice_get_read}
use Rattle.cv_base.specs.declared.entries.Adopted.{Adopted}
use Rattle.cv_exec.specs.LiveRun.{HaveTables, MayAdopt, Span, adoptions_of, one_entry_more, rows_of}
use Rattle.cv_exec.specs.Keeping.{IsNotBelow, is_of_version, last_span, last_table, table_if, table_in}
use Rattle.cv_histories.specs.Flight.{Adoption}
use Rattle.cv_histories.specs.Honest.{IsJoined}
use Rattle.cv_histories.specs.Legal.{NeverFalls}
use Rattle.cv_histories.specs.Rows.{written}
use Rattle.cv_laws.specs.Statements.{AreOf}
use Rattle.cv_runs.specs.PatchedRun.{Table}

same_if : (a b : ℕ) → (a == b) ≡ true → a ≡ b
same_if a b is = grind (arith, nat_tests)

other_if : (a b : ℕ) → (a == b) ≡ false → a ≢ b
other_if a b is = grind (arith, nat_tests)

-- ---- the last one

last_behind : (s : Span) (spans : List Span) → 0 < length spans → last_span (s ∷ spans) ≡ last_span spans
last_behind s [] some = absurd (omega arith)
last_behind s (t ∷ rest) some =
    let n = length rest in
    let more : suc (suc n) - 1 ≡ suc n = omega arith in
    let less : n ≡ suc n - 1 = omega arith in
    ap (slice_get (s ∷ t ∷ rest)) more ∙ ap (slice_get (t ∷ rest)) less

last_cons : (s t : Span) (rest : List Span) → last_span (s ∷ t ∷ rest) ≡ last_span (t ∷ rest)
last_cons s t rest = last_behind s (t ∷ rest) (omega arith)

all_last : (P : Span → Type 0) (spans : List Span) (s : Span) → AllByRecursion P spans → last_span spans ≡ Some s → P s
all_last P [] s all is = cc
all_last P (a ∷ []) s all is = let same : a ≡ s = cc in subst P same all.0
all_last P (a ∷ b ∷ rest) s all is = all_last P (b ∷ rest) s all.1 (sym (last_cons a b rest) ∙ is)

abbrev Known : ℕ → Table → Option Span → Type 0
Known version table None = Unit {0}
Known version table (Some s) = (s.version ≤ version) × (s.version ≡ version → s.table ≡ table)

may_adopt_last : (version : ℕ) (table : Table) (spans : List Span) → Known version table (last_span spans) → MayAdopt version table spans
may_adopt_last version table [] known = tt
may_adopt_last version table (s ∷ []) known = known
may_adopt_last version table (s ∷ t ∷ rest) known = may_adopt_last version table (t ∷ rest) (rw last_cons at known)

adopted_last : (version : ℕ) (table : Table) (spans : List Span) → MayAdopt version table spans → Known version table (last_span spans)
adopted_last version table [] may = tt
adopted_last version table (s ∷ []) may = may
adopted_last version table (s ∷ t ∷ rest) may = rw last_cons (adopted_last version table (t ∷ rest) may)

-- ---- what a version may come next with

known_by : (version : ℕ) (table : Table) (s : Span) (b : Bool) → (s.version == version) ≡ b → s.version ≤ version → (if b then Some s.table else None) ≡ Some table → (s.version ≡ version) × (s.table ≡ table)
known_by version table s true test above is = (same_if s.version version test, cc)
known_by version table s false test above is = cc

known_with : (version : ℕ) (table : Table) (o : Option Span) → IsNotBelow version o → table_if version o ≡ Some table → Known version table o
known_with version table None above is = cc
known_with version table (Some s) above is =
    let known = known_by version table s (s.version == version) refl above is in
    (above, λ _. known.1)

unknown_by : (version : ℕ) (table : Table) (s : Span) (b : Bool) → (s.version == version) ≡ b → (if b then Some s.table else None) ≡ None → s.version ≡ version → s.table ≡ table
unknown_by version table s true test is = λ _. cc
unknown_by version table s false test is = λ same. absurd (other_if s.version version test same)

unknown_with : (version : ℕ) (table : Table) (o : Option Span) → IsNotBelow version o → table_if version o ≡ None → Known version table o
unknown_with version table None above is = tt
unknown_with version table (Some s) above is = (above, unknown_by version table s (s.version == version) refl is)

-- the version that was adopted last comes again, with its table
pub again : (version : ℕ) (table : Table) (spans : List Span) → IsNotBelow version (last_span spans) → table_if version (last_span spans) ≡ Some table → MayAdopt version table spans
again version table spans above is = may_adopt_last version table spans (known_with version table (last_span spans) above is)

-- the version that was adopted last, by its number
last_by : (version : ℕ) (s : Span) (b : Bool) → (s.version == version) ≡ b → b ≡ true → (if b then Some s.table else None) ≡ Some s.table
last_by version s true test is = refl
last_by version s false test is = cc

last_with : (version : ℕ) (o : Option Span) → is_of_version version o ≡ true → (IsNotBelow version o) × (table_if version o ≡ Some (table_in o))
last_with version None is = cc
last_with version (Some s) is =
    let same = same_if s.version version is in
    (omega arith, last_by version s (s.version == version) refl is)

pub may_again : (version : ℕ) (spans : List Span) → is_of_version version (last_span spans) ≡ true → MayAdopt version (last_table spans) spans
may_again version spans is =
    let known = last_with version (last_span spans) is in
    again version (last_table spans) spans known.0 known.1

pub table_again : (version : ℕ) (spans : List Span) → is_of_version version (last_span spans) ≡ true → table_if version (last_span spans) ≡ Some (last_table spans)
table_again version spans is = (last_with version (last_span spans) is).1

-- another version comes, with any table
pub anew : (version : ℕ) (table : Table) (spans : List Span) → IsNotBelow version (last_span spans) → table_if version (last_span spans) ≡ None → MayAdopt version table spans
anew version table spans above is = may_adopt_last version table spans (unknown_with version table (last_span spans) above is)

not_below_with : (version : ℕ) (spans : List Span) (o : Option Span) → last_span spans ≡ o → AllByRecursion (λ (s : Span). s.version ≤ version) spans → IsNotBelow version o
not_below_with version spans None is all = tt
not_below_with version spans (Some s) is all = all_last (λ (s : Span). s.version ≤ version) spans s all is

pub not_below : (version : ℕ) (spans : List Span) → AllByRecursion (λ (s : Span). s.version ≤ version) spans → IsNotBelow version (last_span spans)
not_below version spans all = not_below_with version spans (last_span spans) refl all

-- ---- one entry more

some_more : (version : ℕ) (table : Table) (spans : List Span) → 0 < length (one_entry_more version table spans)
some_more version table [] = omega arith
some_more version table (s ∷ []) = some_one version table s (s.version == version)
  where
    some_one : (version : ℕ) (table : Table) (s : Span) (b : Bool) → 0 < length (if b then record s { entries = s.entries + 1 } ∷ [] else s ∷ record { version = version; entries = 1; table = table } ∷ [])
    some_one version table s true = omega arith
    some_one version table s false = omega arith
some_more version table (s ∷ t ∷ rest) = omega arith

-- what holds of versions and tables alone
all_one : (P : Span → Type 0) (version : ℕ) (table : Table) (s : Span) (b : Bool) → P s → P (record s { entries = s.entries + 1 }) → P (record { version = version; entries = 1; table = table })
    → AllByRecursion P (if b then record s { entries = s.entries + 1 } ∷ [] else s ∷ record { version = version; entries = 1; table = table } ∷ [])
all_one P version table s true here grown new = (grown, tt)
all_one P version table s false here grown new = (here, (new, tt))

all_more : (P : Span → Type 0) (version : ℕ) (table : Table) (spans : List Span) → ((s : Span) (n : ℕ) → P s → P (record s { entries = n })) → P (record { version = version; entries = 1; table = table }) → AllByRecursion P spans → AllByRecursion P (one_entry_more version table spans)
all_more P version table [] keeps new all = (new, tt)
all_more P version table (s ∷ []) keeps new all = all_one P version table s (s.version == version) all.0 (keeps s (s.entries + 1) all.0) new
all_more P version table (s ∷ t ∷ rest) keeps new all = (all.0, all_more P version table (t ∷ rest) keeps new all.1)

pub have_more : (versions : List Table) (version : ℕ) (table : Table) (spans : List Span) → HaveTables versions spans → slice_get versions version ≡ Some table → HaveTables versions (one_entry_more version table spans)
have_more versions version table spans have is =
    all_more (λ (s : Span). slice_get versions s.version ≡ Some s.table) version table spans (λ s n here. here) is have

pub versions_more : (P : ℕ → Type 0) (version : ℕ) (table : Table) (spans : List Span) → AllByRecursion (λ (s : Span). P s.version) spans → P version → AllByRecursion (λ (s : Span). P s.version) (one_entry_more version table spans)
versions_more P version table spans all is = all_more (λ (s : Span). P s.version) version table spans (λ s n here. here) is all

-- what each entry gives, written out
abbrev spread : {A : Type 0} → (Span → A) → List Span → List A
spread g spans = flat_map (λ (s : Span). replicate s.entries (g s)) spans

abbrev with_one : ℕ → Table → Span
with_one version table = record { version = version; entries = 1; table = table }

spread_one : {A : Type 0} (g : ℕ → Table → A) (version : ℕ) (table : Table) (s : Span) (b : Bool) → (s.version == version) ≡ b → (s.version ≡ version → g s.version s.table ≡ g version table)
    → spread (λ (s : Span). g s.version s.table) (if b then record s { entries = s.entries + 1 } ∷ [] else s ∷ with_one version table ∷ [])
    ≡ spread (λ (s : Span). g s.version s.table) (s ∷ []) ++ g version table ∷ []
spread_one g version table s true test same =
    append-nil (replicate (s.entries + 1) (g s.version s.table))
    ∙ sym (replicate-append-replicate s.entries 1 (g s.version s.table))
    ∙ ap (λ a. replicate s.entries (g s.version s.table) ++ a ∷ []) (same (same_if s.version version test))
    ∙ ap (λ l. l ++ g version table ∷ []) (sym (append-nil (replicate s.entries (g s.version s.table))))
spread_one g version table s false test same =
    ap (λ l. l ++ g version table ∷ []) (sym (append-nil (replicate s.entries (g s.version s.table))))

spread_more : {A : Type 0} (g : ℕ → Table → A) (version : ℕ) (table : Table) (spans : List Span) → ((s : Span) → last_span spans ≡ Some s → s.version ≡ version → g s.version s.table ≡ g version table)
    → spread (λ (s : Span). g s.version s.table) (one_entry_more version table spans) ≡ spread (λ (s : Span). g s.version s.table) spans ++ g version table ∷ []
spread_more g version table [] same = refl
spread_more g version table (s ∷ []) same = spread_one g version table s (s.version == version) refl (same s refl)
spread_more g version table (s ∷ t ∷ rest) same =
    ap (λ l. replicate s.entries (g s.version s.table) ++ l) (spread_more g version table (t ∷ rest) (λ x is. same x (last_cons s t rest ∙ is)))
    ∙ sym (append_assoc (replicate s.entries (g s.version s.table)) _ _)

table_by : (version : ℕ) (table : Table) (o : Option Span) (s : Span) → Known version table o → o ≡ Some s → s.version ≡ version → s.table ≡ table
table_by version table None s known is same = cc
table_by version table (Some t) s known is same = let e : t ≡ s = cc in subst (λ (x : Span). x.table ≡ table) e (known.1 (ap (λ (x : Span). x.version) e ∙ same))

-- what the block entries adopt, and their versions
abbrev adoption : ℕ → Table → Adoption
adoption version table = record { version = version; table = table }

pub adoptions_more : (version : ℕ) (table : Table) (spans : List Span) → MayAdopt version table spans → adoptions_of (one_entry_more version table spans) ≡ adoptions_of spans ++ record { version = version; table = table } ∷ []
adoptions_more version table spans may =
    spread_more adoption version table spans
    (λ s is same. ap (λ (v : ℕ). adoption v s.table) same ∙ ap (adoption version) (table_by version table (last_span spans) s (adopted_last version table spans may) is same))

versions_of : (spans : List Span) → written (rows_of spans) ≡ spread (λ (s : Span). s.version) spans
versions_of spans = flat_map-map (λ (a : Adopted). replicate a.entries a.version) (λ (s : Span). record { version = s.version; entries = s.entries }) spans

pub written_more : (version : ℕ) (table : Table) (spans : List Span) → written (rows_of (one_entry_more version table spans)) ≡ written (rows_of spans) ++ version ∷ []
written_more version table spans =
    versions_of (one_entry_more version table spans)
    ∙ spread_more (λ v t. v) version table spans (λ s is same. same)
    ∙ ap (λ l. l ++ version ∷ []) (sym (versions_of spans))

last_one : (version : ℕ) (table : Table) (s : Span) (b : Bool) → (s.version == version) ≡ b → (s.version ≡ version → s.table ≡ table)
    → last_table (if b then record s { entries = s.entries + 1 } ∷ [] else s ∷ with_one version table ∷ []) ≡ table
last_one version table s true test known = known (same_if s.version version test)
last_one version table s false test known = refl

-- the table adopted last is the new one
pub last_more : (version : ℕ) (table : Table) (spans : List Span) → MayAdopt version table spans → last_table (one_entry_more version table spans) ≡ table
last_more version table [] may = refl
last_more version table (s ∷ []) may = last_one version table s (s.version == version) refl may.1
last_more version table (s ∷ t ∷ rest) may =
    ap table_in (last_behind s (one_entry_more version table (t ∷ rest)) (some_more version table (t ∷ rest))) ∙ last_more version table (t ∷ rest) may

-- neighbours differ, and versions never fall
abbrev Begins : List Span → ℕ → Type 0
Begins [] version = ⊥
Begins (s ∷ rest) version = s.version ≡ version

begins_one : (version : ℕ) (table : Table) (s : Span) (b : Bool) → Begins (if b then record s { entries = s.entries + 1 } ∷ [] else s ∷ with_one version table ∷ []) s.version
begins_one version table s true = refl
begins_one version table s false = refl

begins_more : (version : ℕ) (table : Table) (s : Span) (rest : List Span) → Begins (one_entry_more version table (s ∷ rest)) s.version
begins_more version table s [] = begins_one version table s (s.version == version)
begins_more version table s (t ∷ rest) = refl

joined_cons : (s : Span) (rest : List Span) (version : ℕ) → Begins rest version → 1 ≤ s.entries → s.version ≢ version → IsJoined (rows_of rest) → IsJoined (rows_of (s ∷ rest))
joined_cons s [] version begins some other joined = absurd begins
joined_cons s (t ∷ rest) version begins some other joined = (some, λ same. other (same ∙ begins), joined)

falls_cons : (s : Span) (rest : List Span) (version : ℕ) → Begins rest version → s.version ≤ version → NeverFalls (rows_of rest) → NeverFalls (rows_of (s ∷ rest))
falls_cons s [] version begins below rises = absurd begins
falls_cons s (t ∷ rest) version begins below rises = (rw begins below, rises)

joined_one : (version : ℕ) (table : Table) (s : Span) (b : Bool) → (s.version == version) ≡ b → 1 ≤ s.entries
    → IsJoined (rows_of (if b then record s { entries = s.entries + 1 } ∷ [] else s ∷ with_one version table ∷ []))
joined_one version table s true test some = let more : 1 ≤ s.entries + 1 = omega arith in more
joined_one version table s false test some = (some, other_if s.version version test, omega arith)

falls_one : (version : ℕ) (table : Table) (s : Span) (b : Bool) → s.version ≤ version
    → NeverFalls (rows_of (if b then record s { entries = s.entries + 1 } ∷ [] else s ∷ with_one version table ∷ []))
falls_one version table s true below = tt
falls_one version table s false below = (below, tt)

pub joined_more : (version : ℕ) (table : Table) (spans : List Span) → IsJoined (rows_of spans) → IsJoined (rows_of (one_entry_more version table spans))
joined_more version table [] joined = omega arith
joined_more version table (s ∷ []) joined = joined_one version table s (s.version == version) refl joined
joined_more version table (s ∷ t ∷ rest) joined =
    joined_cons s (one_entry_more version table (t ∷ rest)) t.version (begins_more version table t rest) joined.0 joined.1 (joined_more version table (t ∷ rest) joined.2)

pub rises_more : (version : ℕ) (table : Table) (spans : List Span) → MayAdopt version table spans → NeverFalls (rows_of spans) → NeverFalls (rows_of (one_entry_more version table spans))
rises_more version table [] may rises = tt
rises_more version table (s ∷ []) may rises = falls_one version table s (s.version == version) may.0
rises_more version table (s ∷ t ∷ rest) may rises =
    falls_cons s (one_entry_more version table (t ∷ rest)) t.version (begins_more version table t rest) rises.0 (rises_more version table (t ∷ rest) may rises.1)

-- ---- the tables of what was adopted

copies_of : (versions : List Table) (a : Adoption) (n : ℕ) (rest : List Adoption) → slice_get versions a.version ≡ Some a.table → AreOf versions rest → AreOf versions (replicate n a ++ rest)
copies_of versions a zero rest is are = are
copies_of versions a (suc n) rest is are = (is, copies_of versions a n rest is are)

-- where versions have the tables of what was adopted, so do the adoptions
pub adoptions_are : (versions : List Table) (spans : List Span) → HaveTables versions spans → AreOf versions (adoptions_of spans)
adoptions_are versions [] have = tt
adoptions_are versions (s ∷ spans) have = copies_of versions (adoption s.version s.table) s.entries (adoptions_of spans) have.0 (adoptions_are versions spans have.1)

there_by : (versions : List Table) (version : ℕ) (table : Table) (s : Span) (b : Bool) → (s.version == version) ≡ b → slice_get versions s.version ≡ Some s.table → (if b then Some s.table else None) ≡ Some table → slice_get versions version ≡ Some table
there_by versions version table s true test here is = rw (← same_if s.version version test) (here ∙ is)
there_by versions version table s false test here is = cc

there_with : (versions : List Table) (version : ℕ) (table : Table) (spans : List Span) (o : Option Span) → last_span spans ≡ o → HaveTables versions spans → table_if version o ≡ Some table → slice_get versions version ≡ Some table
there_with versions version table spans None at have is = cc
there_with versions version table spans (Some s) at have is =
    there_by versions version table s (s.version == version) refl (all_last (λ (s : Span). slice_get versions s.version ≡ Some s.table) spans s have at) is

-- the table of the version that was adopted last is among the versions
pub there : (versions : List Table) (version : ℕ) (table : Table) (spans : List Span) → HaveTables versions spans → table_if version (last_span spans) ≡ Some table → slice_get versions version ≡ Some table
there versions version table spans have is = there_with versions version table spans (last_span spans) refl have is

-- ---- how one entry more is written down

few_entries : (spans : List Span) (s : Span) → last_span spans ≡ Some s → s.entries ≤ length (adoptions_of spans)
few_entries [] s is = cc
few_entries (a ∷ []) s is =
    let same : a ≡ s = cc in
    let count : length (replicate a.entries (adoption a.version a.table) ++ []) ≡ a.entries = ap length (append-nil (replicate a.entries (adoption a.version a.table))) ∙ length-replicate a.entries (adoption a.version a.table) in
    subst (λ (x : Span). x.entries ≤ length (adoptions_of (a ∷ []))) same (omega arith)
few_entries (a ∷ b ∷ rest) s is =
    let below = few_entries (b ∷ rest) s (sym (last_cons a b rest) ∙ is) in
    let count : length (replicate a.entries (adoption a.version a.table) ++ adoptions_of (b ∷ rest)) ≡ length (replicate a.entries (adoption a.version a.table)) + length (adoptions_of (b ∷ rest)) = length-append (replicate a.entries (adoption a.version a.table)) (adoptions_of (b ∷ rest)) in
    omega arith

set_behind : (a : Span) (spans : List Span) (x : Span) → 0 < length spans → set (a ∷ spans) (length (a ∷ spans) - 1) x ≡ a ∷ set spans (length spans - 1) x
set_behind a [] x some = absurd (omega arith)
set_behind a (b ∷ rest) x some =
    let n = length rest in
    let more : suc (suc n) - 1 ≡ suc n = omega arith in
    let less : n ≡ suc n - 1 = omega arith in
    ap (λ k. set (a ∷ b ∷ rest) k x) more ∙ ap (λ k. a ∷ set (b ∷ rest) k x) less

-- what is read at the last place, where a version was adopted last
read_last : (version : ℕ) (spans : List Span) (at : ℕ) (s : Span) → at ≡ length spans - 1 → is_of_version version (last_span spans) ≡ true → s ≡ get_or spans at s → last_span spans ≡ Some s
read_last version [] at s place same is = cc
read_last version (a ∷ rest) at s place same is =
    ap (slice_get (a ∷ rest)) (sym place) ∙ slice_get_read (a ∷ rest) (length (a ∷ rest)) at s refl (omega arith) is

pub entries_fit : (version : ℕ) (spans : List Span) (at : ℕ) (s : Span) → at ≡ length spans - 1 → is_of_version version (last_span spans) ≡ true → s ≡ get_or spans at s → s.entries ≤ length (adoptions_of spans)
entries_fit version spans at s place same is = few_entries spans s (read_last version spans at s place same is)

-- the last version gets one entry more
joined_last : (version : ℕ) (table : Table) (spans : List Span) (s : Span) → last_span spans ≡ Some s → is_of_version version (last_span spans) ≡ true
    → set spans (length spans - 1) (record s { entries = s.entries + 1 }) ≡ one_entry_more version table spans
joined_last version table [] s is same = cc
joined_last version table (a ∷ []) s is same =
    let one : a ≡ s = cc in
    ap (λ (x : Span). record x { entries = x.entries + 1 } ∷ []) (sym one) ∙ ap (λ (b : Bool). if b then record a { entries = a.entries + 1 } ∷ [] else a ∷ with_one version table ∷ []) (sym same)
joined_last version table (a ∷ b ∷ rest) s is same =
    set_behind a (b ∷ rest) (record s { entries = s.entries + 1 }) (omega arith)
    ∙ ap (λ l. a ∷ l) (joined_last version table (b ∷ rest) s (sym (last_cons a b rest) ∙ is) (ap (is_of_version version) (sym (last_cons a b rest)) ∙ same))

-- another version is added
pub pushed : (version : ℕ) (table : Table) (spans : List Span) → is_of_version version (last_span spans) ≡ false → spans ++ record { version = version; entries = 1; table = table } ∷ [] ≡ one_entry_more version table spans
pushed version table [] other = refl
pushed version table (a ∷ []) other = ap (λ (b : Bool). if b then record a { entries = a.entries + 1 } ∷ [] else a ∷ with_one version table ∷ []) (sym other)
pushed version table (a ∷ b ∷ rest) other = ap (λ l. a ∷ l) (pushed version table (b ∷ rest) (ap (is_of_version version) (sym (last_cons a b rest)) ∙ other))

pub joined_at : (version : ℕ) (table : Table) (spans : List Span) (at : ℕ) (s : Span) → at ≡ length spans - 1 → is_of_version version (last_span spans) ≡ true → s ≡ get_or spans at s
    → set spans at (record s { entries = s.entries + 1 }) ≡ one_entry_more version table spans
joined_at version table spans at s place same is =
    ap (λ k. set spans k (record s { entries = s.entries + 1 })) place ∙ joined_last version table spans s (read_last version spans at s place same is) same

same_table_with : (version : ℕ) (table : Table) (o : Option Span) → Known version table o → is_of_version version o ≡ true → table_in o ≡ table
same_table_with version table None known is = cc
same_table_with version table (Some s) known is = known.1 (same_if s.version version is)

-- where the version that was adopted last may come again, its table is known
pub same_table : (version : ℕ) (table : Table) (spans : List Span) → MayAdopt version table spans → is_of_version version (last_span spans) ≡ true → last_table spans ≡ table
same_table version table spans may is = same_table_with version table (last_span spans) (adopted_last version table spans may) is

some_span : (spans : List Span) → 0 < length spans → IsSome (last_span spans)
some_span [] some = absurd (omega arith)
some_span (s ∷ []) some = refl
some_span (s ∷ t ∷ rest) some = rw last_cons (some_span (t ∷ rest) (omega arith))

pub some_last : (version : ℕ) (table : Table) (spans : List Span) → IsSome (last_span (one_entry_more version table spans))
some_last version table spans = some_span (one_entry_more version table spans) (some_more version table spans)
