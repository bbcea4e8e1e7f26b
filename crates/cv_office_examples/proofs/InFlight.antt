-- A run in flight, of which a pass has the ticket, makes a block entry.
use Rattle.std.proofs.Common.{◌≡◌, ◌≤◌, ◌+◌, ℕ, zero, suc, Bool, true, false, List, [], ◌∷◌, ◌++◌, Option, Some, refl, sym, ap, ◌∙◌, subst, append_assoc, arith}
use Rattle.std.specs.Prelude.{◌==◌, if◌then◌else◌, replicate, slice_get}
use Rattle.std.specs.List.{AllByRecursion}
use Rattle.std.proofs.lemmas.Bool.Decides.{nat_tests}
use Rattle.std.proofs.lemmas.List.{append-nil, replicate-append-replicate}
use Rattle.std.proofs.lemmas.Option.{same_Some}
use mathlib.Core.List.{IsPrefix}
use Rattle.cv_base.specs.PlanOf.{PlanOf}
use Rattle.cv_desk.specs.Passes.{HasGrown, Sight, TicketOf}
use Rattle.cv_exec.specs.ArenaOf.{Going, adopted_in, entered}
use Rattle.cv_exec.specs.LiveRun.{HaveTables, MayAdopt, Span, one_entry_more, rows_of}
use Rattle.cv_histories.specs.Rows.{written}
use Rattle.cv_office_examples.proofs.Steps.{drawn_stays}
use Rattle.cv_office_examples.specs.Taking.{IsFlying}
use Rattle.cv_rule.specs.Steps.{worker_of}
use Rattle.cv_rule.specs.Steps as view
use Rattle.cv_rule.specs.declared.view.Role.{Role}
use Rattle.cv_runs.specs.PatchedRun.{Table}

-- ---- the versions that were adopted

-- what follows from a fact of each
weaker : (P Q : Span → Type 0) → ((x : Span) → P x → Q x) → (spans : List Span) → AllByRecursion P spans → AllByRecursion Q spans
weaker P Q step [] all = tt
weaker P Q step (x ∷ spans) all = (step x all.0, weaker P Q step spans all.1)

one_by : (Q : ℕ → Table → Type 0) (version : ℕ) (table : Table) (s : Span) (b : Bool) → Q s.version s.table → Q version table
    → AllByRecursion (λ (x : Span). Q x.version x.table) (if b then record s { entries = s.entries + 1 } ∷ [] else s ∷ record { version = version; entries = 1; table = table } ∷ [])
one_by Q version table s true was new = (was, tt)
one_by Q version table s false was new = (was, (new, tt))

-- what holds of each version and its table, with one block entry more
with_one : (Q : ℕ → Table → Type 0) (version : ℕ) (table : Table) (spans : List Span) → AllByRecursion (λ (x : Span). Q x.version x.table) spans → Q version table → AllByRecursion (λ (x : Span). Q x.version x.table) (one_entry_more version table spans)
with_one Q version table [] all new = (new, tt)
with_one Q version table (s ∷ []) all new = one_by Q version table s (s.version == version) all.0 new
with_one Q version table (s ∷ t ∷ rest) all new = (all.0, with_one Q version table (t ∷ rest) all.1 new)

same_if : (a b : ℕ) → (a == b) ≡ true → a ≡ b
same_if a b is = grind (arith, nat_tests)

written_by : (version : ℕ) (table : Table) (s : Span) (b : Bool) → (s.version == version) ≡ b
    → written (rows_of (if b then record s { entries = s.entries + 1 } ∷ [] else s ∷ record { version = version; entries = 1; table = table } ∷ [])) ≡ written (rows_of (s ∷ [])) ++ version ∷ []
written_by version table s true is =
    append-nil (replicate (s.entries + 1) s.version)
    ∙ (sym (replicate-append-replicate s.entries 1 s.version)
    ∙ (ap (λ (n : ℕ). replicate s.entries s.version ++ n ∷ []) (same_if s.version version is)
    ∙ ap (λ (l : List ℕ). l ++ version ∷ []) (sym (append-nil (replicate s.entries s.version)))))
written_by version table s false is = ap (λ (l : List ℕ). l ++ version ∷ []) (sym (append-nil (replicate s.entries s.version)))

-- the versions, written out, with one block entry more
written_more : (version : ℕ) (table : Table) (spans : List Span) → written (rows_of (one_entry_more version table spans)) ≡ written (rows_of spans) ++ version ∷ []
written_more version table [] = refl
written_more version table (s ∷ []) = written_by version table s (s.version == version) refl
written_more version table (s ∷ t ∷ rest) =
    ap (λ (l : List ℕ). replicate s.entries s.version ++ l) (written_more version table (t ∷ rest))
    ∙ sym (append_assoc (replicate s.entries s.version) (written (rows_of (t ∷ rest))) (version ∷ []))

one_table : (versions : List Table) (version : ℕ) (table other : Table) (n : ℕ) → slice_get versions n ≡ Some other → slice_get versions version ≡ Some table → n ≡ version → other ≡ table
one_table versions version table other n at is same = same_Some other table (sym at ∙ (ap (slice_get versions) same ∙ is))

-- a version that is not below any of them may come next, with its table
may_adopt : (versions : List Table) (version : ℕ) (table : Table) (spans : List Span) → HaveTables versions spans → AllByRecursion (λ (x : Span). x.version ≤ version) spans → slice_get versions version ≡ Some table → MayAdopt version table spans
may_adopt versions version table [] have below is = tt
may_adopt versions version table (s ∷ []) have below is = (below.0, λ same. one_table versions version table s.table s.version have.0 is same)
may_adopt versions version table (s ∷ t ∷ rest) have below is = may_adopt versions version table (t ∷ rest) have.1 below.1 is

get_more : (xs more : List Table) (k : ℕ) (x : Table) → slice_get xs k ≡ Some x → slice_get (xs ++ more) k ≡ Some x
get_more [] more k x at = cc
get_more (y ∷ xs) more zero x at = at
get_more (y ∷ xs) more (suc k) x at = get_more xs more k x at

have_grown : (xs ys : List Table) (spans : List Span) → IsPrefix xs ys → HaveTables xs spans → HaveTables ys spans
have_grown xs ys spans grown have =
    subst (λ (l : List Table). HaveTables l spans) grown.1
    (weaker (λ (x : Span). slice_get xs x.version ≡ Some x.table) (λ (x : Span). slice_get (xs ++ grown.0) x.version ≡ Some x.table) (λ x at. get_more xs grown.0 x.version x.table at) spans have)

-- ---- a block entry

module _ (plan : PlanOf) (v u w : Sight) (t : TicketOf) (flight : Option Going) (version : ℕ) (table : Table) (f : IsFlying plan v t flight) (loads : u ≡ view.entered v version) (rises : v.reach ≤ version) (grown : HasGrown u w) (at : slice_get w.known.versions version ≡ Some table) where
  versions_grow : IsPrefix v.known.versions w.known.versions
  versions_grow = subst (λ (x : Sight). IsPrefix x.known.versions w.known.versions) loads grown.versions

  tables_now : HaveTables w.known.versions f.going.adopted
  tables_now = have_grown v.known.versions w.known.versions f.going.adopted versions_grow f.tables

  below_now : AllByRecursion (λ (x : Span). x.version ≤ version) f.going.adopted
  below_now = weaker (λ (x : Span). x.version ≤ v.reach) (λ (x : Span). x.version ≤ version) (λ x most. omega (arith, most, rises)) f.going.adopted f.reached

  pub may_enter : MayAdopt version table (adopted_in flight)
  may_enter = rw f.is (may_adopt w.known.versions version table f.going.adopted tables_now below_now at)

  reach_now : version ≤ w.reach
  reach_now = let more = grown.reach in let is = ap (λ (x : Sight). x.reach) loads in omega (arith, more, is)

  pub flies_on : (flight' : Option Going) → flight' ≡ entered version table flight → IsFlying plan w t flight'
  flies_on flight' is =
      let role : w.role ≡ v.role = grown.role ∙ ap (λ (x : Sight). x.role) loads in
      let hand : w.hand ≡ v.hand = grown.hand ∙ ap (λ (x : Sight). x.hand) loads in
      let floor : w.floor ≡ v.floor = grown.floor ∙ ap (λ (x : Sight). x.floor) loads in
      let opening : w.known.opening ≡ v.known.opening = grown.opening ∙ ap (λ (x : Sight). x.known.opening) loads in
      let loaded : w.loaded ≡ v.loaded ++ version ∷ [] = grown.loaded ∙ ap (λ (x : Sight). x.loaded) loads in
      record {
        drawn = drawn_stays plan v w t f.drawn role hand floor opening;
        going = record f.going { adopted = one_entry_more version table f.going.adopted };
        is = is ∙ ap (entered version table) f.is;
        run = f.run;
        worker = f.worker ∙ sym (ap (λ (o : Role). worker_of o) role);
        loaded = written_more version table f.going.adopted ∙ (ap (λ (l : List ℕ). l ++ version ∷ []) f.loaded ∙ sym loaded);
        tables = with_one (λ n x. slice_get w.known.versions n ≡ Some x) version table f.going.adopted tables_now at;
        reached = with_one (λ n x. n ≤ w.reach) version table f.going.adopted (weaker (λ (x : Span). x.version ≤ version) (λ (x : Span). x.version ≤ w.reach) (λ x most. omega (arith, most, reach_now)) f.going.adopted below_now) reach_now;
      }
