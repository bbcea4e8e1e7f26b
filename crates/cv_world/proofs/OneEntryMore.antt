-- One block entry more, under the newest version.
use Rattle.std.proofs.Common.{◌≡◌, ◌<◌, ◌+◌, ◌-◌, ℕ, Bool, true, false, List, [], ◌∷◌, length, Some, sym, ap, ◌∙◌, arith}
use Rattle.std.specs.Prelude.{◌==◌, if◌then◌else◌, slice_get}
use Rattle.std.proofs.lemmas.Option.{same_Some, slice_get_within}
use Rattle.cv_exec.specs.LiveRun.{HaveTables, MayAdopt, Span, one_entry_more}
use Rattle.cv_histories.specs.Versions.{newest_of}
use Rattle.cv_runs.specs.PatchedRun.{Table}

-- a run that has the table of each version that it adopted may adopt the newest one
pub may_adopt_newest : (versions : List Table) (spans : List Span) → slice_get versions (length versions - 1) ≡ Some (newest_of versions) → HaveTables versions spans → MayAdopt (length versions - 1) (newest_of versions) spans
may_adopt_newest versions [] last have = tt
may_adopt_newest versions (s ∷ []) last have =
    let below : s.version < length versions = slice_get_within versions s.version s.table have.0 in (
      omega arith,
      λ same. same_Some s.table (newest_of versions) (sym have.0 ∙ ap (slice_get versions) same ∙ last),
    )
may_adopt_newest versions (s ∷ t ∷ rest) last have = may_adopt_newest versions (t ∷ rest) last have.1

-- it has the table of the new one too
with_one : (versions : List Table) (version : ℕ) (table : Table) (s : Span) (b : Bool) → slice_get versions s.version ≡ Some s.table → slice_get versions version ≡ Some table
    → HaveTables versions (if b then record s { entries = s.entries + 1 } ∷ [] else s ∷ record { version = version; entries = 1; table = table } ∷ [])
with_one versions version table s true here there = (here, tt)
with_one versions version table s false here there = (here, (there, tt))

have_more : (versions : List Table) (version : ℕ) (table : Table) (spans : List Span) → HaveTables versions spans → slice_get versions version ≡ Some table → HaveTables versions (one_entry_more version table spans)
have_more versions version table [] have there = (there, tt)
have_more versions version table (s ∷ []) have there = with_one versions version table s (s.version == version) have.0 there
have_more versions version table (s ∷ t ∷ rest) have there = (have.0, have_more versions version table (t ∷ rest) have.1 there)

pub have_newest : (versions : List Table) (spans : List Span) → slice_get versions (length versions - 1) ≡ Some (newest_of versions) → HaveTables versions spans → HaveTables versions (one_entry_more (length versions - 1) (newest_of versions) spans)
have_newest versions spans last have = have_more versions (length versions - 1) (newest_of versions) spans have last
