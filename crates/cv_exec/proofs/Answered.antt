-- The versions that an adopter answers, and what a live run has adopted of them.
use Rattle.std.proofs.Common.{◌≡◌, ◌≤◌, ℕ, zero, suc, List, [], ◌∷◌, ◌++◌, Option, Some, None, refl, sym, ap, ◌∙◌, append_assoc}
use Rattle.std.specs.Prelude.{slice_get, IsSome}
use Rattle.std.specs.List.{AllByRecursion}
use Rattle.cv_exec.specs.ArenaOf.{Going, adopted_in, entered}
use Rattle.cv_exec.specs.LiveRun.{HaveTables, MayAdopt, Span, one_entry_more, rows_of}
use Rattle.cv_exec.specs.Keeping.{IsNotBelow, last_span}
use Rattle.cv_exec.proofs.Adopting.{have_more, not_below, rises_more, versions_more, written_more}
use Rattle.cv_histories.specs.Legal.{NeverFalls}
use Rattle.cv_histories.specs.Rows.{written}
use Rattle.cv_patch.specs.Adopting.{IsGrown}
use Rattle.cv_runs.specs.PatchedRun.{Table}

-- what follows from a fact of each
weaker : {X : Type 0} (P Q : X → Type 0) → ((x : X) → P x → Q x) → (xs : List X) → AllByRecursion P xs → AllByRecursion Q xs
weaker P Q step [] all = tt
weaker P Q step (x ∷ xs) all = (step x all.0, weaker P Q step xs all.1)

-- with others behind it
in_front : (xs ys : List Table) (k : ℕ) (t : Table) → slice_get xs k ≡ Some t → slice_get (xs ++ ys) k ≡ Some t
in_front [] ys zero t is = cc
in_front [] ys (suc k) t is = cc
in_front (x ∷ xs) ys zero t is = is
in_front (x ∷ xs) ys (suc k) t is = in_front xs ys k t is

-- what an adopter answers is not below what a run has adopted of its answers
pub above_all : (HasAnswered : ℕ → Type 0) (version : ℕ) (spans : List Span) → ((v : ℕ) → HasAnswered v → v ≤ version) → AllByRecursion (λ (s : Span). HasAnswered s.version) spans → IsNotBelow version (last_span spans)
above_all HasAnswered version spans rises all =
    not_below version spans (weaker (λ (s : Span). HasAnswered s.version) (λ (s : Span). s.version ≤ version) (λ s is. rises s.version is) spans all)

grown_at : (old new : List Table) (version : ℕ) (table : Table) → IsGrown old new → slice_get old version ≡ Some table → slice_get new version ≡ Some table
grown_at old new version table grown is = rw grown.1 (in_front old grown.0 version table is)

pub have_grown : (old new : List Table) (spans : List Span) → IsGrown old new → HaveTables old spans → HaveTables new spans
have_grown old new spans grown have =
    weaker (λ (s : Span). slice_get old s.version ≡ Some s.table) (λ (s : Span). slice_get new s.version ≡ Some s.table) (λ s is. grown_at old new s.version s.table grown is) spans have

pub grown_on : (a b c : List Table) → IsGrown a b → IsGrown b c → IsGrown a c
grown_on a b c first second = (first.0 ++ second.0, second.1 ∙ ap (λ l. l ++ second.0) first.1 ∙ append_assoc a first.0 second.0)

adopted_after : (version : ℕ) (table : Table) (going : Option Going) → IsSome going → adopted_in (entered version table going) ≡ one_entry_more version table (adopted_in going)
adopted_after version table None some = cc
adopted_after version table (Some g) some = refl

module _ (version : ℕ) (table : Table) (old new : Option Going) (some : IsSome old) (is : new ≡ entered version table old) where
  adopted_is : adopted_in new ≡ one_entry_more version table (adopted_in old)
  adopted_is = ap adopted_in is ∙ adopted_after version table old some

  -- the tables of what it has adopted are known
  pub tables_after : (a b c : List Table) → IsGrown a b → IsGrown b c → HaveTables a (adopted_in old) → (HaveTables b (adopted_in old) → slice_get c version ≡ Some table) → HaveTables c (adopted_in new)
  tables_after a b c first second have known =
      let later = have_grown a b (adopted_in old) first have in
      rw adopted_is (have_more c version table (adopted_in old) (have_grown b c (adopted_in old) second later) (known later))

  -- the adopter has answered all of it
  pub answered_after : (A B C : ℕ → Type 0) → ((v : ℕ) → A v → B v) → ((v : ℕ) → B v → C v) → B version → AllByRecursion (λ (s : Span). A s.version) (adopted_in old) → AllByRecursion (λ (s : Span). C s.version) (adopted_in new)
  answered_after A B C first second answered all =
      rw adopted_is
      (versions_more C version table (adopted_in old)
      (weaker (λ (s : Span). A s.version) (λ (s : Span). C s.version) (λ s here. second s.version (first s.version here)) (adopted_in old) all)
      (second version answered))

  -- the answers, written out
  pub written_after : (before : List ℕ) → (before ++ written (rows_of (adopted_in old))) ++ version ∷ [] ≡ before ++ written (rows_of (adopted_in new))
  written_after before =
      append_assoc before (written (rows_of (adopted_in old))) (version ∷ [])
      ∙ ap (λ l. before ++ l) (sym (ap (λ (spans : List Span). written (rows_of spans)) adopted_is ∙ written_more version table (adopted_in old)))

  -- versions that do not fall
  pub rises_after : MayAdopt version table (adopted_in old) → NeverFalls (rows_of (adopted_in old)) → NeverFalls (rows_of (adopted_in new))
  rises_after may rises = rw adopted_is (rises_more version table (adopted_in old) may rises)
