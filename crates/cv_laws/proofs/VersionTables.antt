-- Versions through a history, and adopted versions in their rows.
use Rattle.std.proofs.Common.{◌≡◌, ◌≤◌, ◌+◌, ◌-◌, ℕ, Bool, true, false, List, [], ◌∷◌, ◌++◌, length, replicate, Some, refl, sym, ap, ◌∙◌, arith}
use Rattle.std.specs.Prelude.{◌==◌, if◌then◌else◌, reverse, slice_get}
use Rattle.std.proofs.lemmas.Bool.{cond_both, eqb-true, eqb-false}
use Rattle.std.proofs.lemmas.Grind.{reverse_onto}
use Rattle.std.proofs.lemmas.List.{append-nil, append_assoc, length-append, replicate-append-replicate}
use Rattle.std.proofs.lemmas.List.Concat.{flat_map-append}
use Rattle.std.proofs.lemmas.Option.{slice_get-get_or, unwrap_or-slice_get}
use Rattle.std.specs.List.{AllByRecursion}
use mathlib.Core.List.{reverse_aux}
use Rattle.cv_base.specs.declared.entries.Adopted.{Adopted}
use Rattle.cv_base.specs.declared.entries.Entry.{Entry}
use Rattle.cv_base.specs.PlanOf.{PlanOf}
use Rattle.cv_histories.specs.Honest.{IsJoined}
use Rattle.cv_histories.specs.Legal.{NeverFalls, floor_of, up_to}
use Rattle.cv_histories.specs.Rows.{written}
use Rattle.cv_histories.specs.Versions.{ledger, newest, newest_of, same_table, seen_by, table}
use Rattle.cv_histories.specs.Flight.{joined, joined_on}
use Rattle.cv_laws.specs.WorldStands.{Falls}
use Rattle.cv_laws.proofs.PatchedSteps.{in_front}
use Rattle.cv_runs.specs.PatchedRun.{Table}
use Rattle.cv_laws.specs.VersionStatements.{FloorIsBelow, FloorStays, NewestIsLast, SomeVersion, TablesStay}

-- ---- through a history

-- with a table that may be new
some_by : (b : Bool) (versions : List Table) (t : Table) → 1 ≤ length versions → 1 ≤ length (if b then versions else versions ++ t ∷ [])
some_by true versions t some = some
some_by false versions t some = simp length-append (omega arith)

-- there is a version
pub some_version : SomeVersion
some_version plan [] = omega arith
some_version plan (e ∷ past) =
    let l = ledger plan past in
    some_by (same_table (table plan (seen_by l e)) (newest_of l.versions)) l.versions (table plan (seen_by l e)) (some_version plan past)

-- with a table that may be new, a version keeps its table
stays_by : (b : Bool) (versions : List Table) (new : Table) (v : ℕ) (t : Table) → slice_get versions v ≡ Some t → slice_get (if b then versions else versions ++ new ∷ []) v ≡ Some t
stays_by true versions new v t at = at
stays_by false versions new v t at = in_front versions (new ∷ []) v t at

-- with one more entry too
pub tables_stay : TablesStay
tables_stay plan past e v t at =
    let l = ledger plan past in
    stays_by (same_table (table plan (seen_by l e)) (newest_of l.versions)) l.versions (table plan (seen_by l e)) v t at

-- with a table that may be new, there are no fewer versions
grows_by : (b : Bool) (versions : List Table) (t : Table) → length versions ≤ length (if b then versions else versions ++ t ∷ [])
grows_by true versions t = omega arith
grows_by false versions t = simp length-append (omega arith)

-- the newest version never falls
pub newest_grows : (plan : PlanOf) (past : List Entry) (e : Entry) → newest plan past ≤ newest plan (e ∷ past)
newest_grows plan past e =
    let l = ledger plan past in
    let more = grows_by (same_table (table plan (seen_by l e)) (newest_of l.versions)) l.versions (table plan (seen_by l e)) in
    omega arith

-- the table of the newest version
pub newest_there : NewestIsLast
newest_there versions some =
    slice_get-get_or versions (length versions - 1) [] (omega arith) ∙ ap Some (sym (unwrap_or-slice_get versions (length versions - 1) []))

-- with one more entry, which may pass the test
below_by : (plan : PlanOf) (test : Entry → Bool) (past : List Entry) (e : Entry) (b : Bool) → floor_of plan test past ≤ newest plan past → newest plan (elim b [ true ↦ e ∷ past | false ↦ up_to test past ]) ≤ newest plan (e ∷ past)
below_by plan test past e true below = omega arith
below_by plan test past e false below = let more = newest_grows plan past e in omega arith

-- a floor is at most the newest version
pub floor_below : FloorIsBelow
floor_below plan test [] = omega arith
floor_below plan test (e ∷ past) = below_by plan test past e (test e) (floor_below plan test past)

-- and it stays with an entry that does not pass its test
pub floor_stays : FloorStays
floor_stays plan test past e fails = ap (λ (b : Bool). newest plan (elim b [ true ↦ e ∷ past | false ↦ up_to test past ])) fails

-- ---- in rows

-- the newest row, written out last
pub written_last : (a : Adopted) (rest : List Adopted) → written (reverse (a ∷ rest)) ≡ written (reverse rest) ++ replicate a.entries a.version
written_last a rest =
    ap (λ (rows : List Adopted). written rows) (reverse_onto rest a []) ∙ flat_map-append (λ (x : Adopted). replicate x.entries x.version) (reverse rest) (a ∷ [])
    ∙ ap (λ (vs : List ℕ). written (reverse rest) ++ vs) (append-nil (replicate a.entries a.version))

-- one more copy, put last
pub one_more : (n v : ℕ) → replicate (n + 1) v ≡ replicate n v ++ v ∷ []
one_more n v = sym (replicate-append-replicate n 1 v)

-- one more version, written out last
joined_on_written : (v : ℕ) (rows : List Adopted) → written (reverse (joined_on v rows)) ≡ written (reverse rows) ++ v ∷ []
joined_on_written v [] = refl
joined_on_written v (a ∷ rest) =
    cond_both (a.version == v) (record { version = v; entries = a.entries + 1 } ∷ rest) (record { version = v; entries = 1 } ∷ a ∷ rest)
    (λ (rows : List Adopted). written (reverse rows) ≡ written (reverse (a ∷ rest)) ++ v ∷ [])
    (λ is.
    let same : a.version ≡ v = eqb-true a.version v is in
    written_last (record { version = v; entries = a.entries + 1 }) rest ∙ ap (λ (vs : List ℕ). written (reverse rest) ++ vs) (one_more a.entries v ∙ ap (λ (w : ℕ). replicate a.entries w ++ v ∷ []) (sym same))
    ∙ sym (append_assoc (written (reverse rest)) (replicate a.entries a.version) (v ∷ [])) ∙ ap (λ (vs : List ℕ). vs ++ v ∷ []) (sym (written_last a rest)))
    (λ differ. written_last (record { version = v; entries = 1 }) (a ∷ rest))

-- the rows say the versions
pub joined_written : (vs : List ℕ) → written (reverse (joined vs)) ≡ reverse vs
joined_written [] = refl
joined_written (v ∷ vs) = joined_on_written v (joined vs) ∙ ap (λ (ws : List ℕ). ws ++ v ∷ []) (joined_written vs) ∙ sym (reverse_onto vs v [])

-- the first row counts at least 1
some_entries : (a : Adopted) (rest : List Adopted) → IsJoined (a ∷ rest) → 1 ≤ a.entries
some_entries a [] is = is
some_entries a (b ∷ rest) is = is.0

-- the first row counts one more
with_more : (v : ℕ) (a : Adopted) (rest : List Adopted) → a.version ≡ v → IsJoined (a ∷ rest) → IsJoined (record { version = v; entries = a.entries + 1 } ∷ rest)
with_more v a [] same is = omega arith
with_more v a (b ∷ rest) same is = (omega arith, rw (← same) is.1, is.2)

-- rows stay joined with one more version
joined_on_is : (v : ℕ) (rows : List Adopted) → IsJoined rows → IsJoined (joined_on v rows)
joined_on_is v [] is = omega arith
joined_on_is v (a ∷ rest) is =
    cond_both (a.version == v) (record { version = v; entries = a.entries + 1 } ∷ rest) (record { version = v; entries = 1 } ∷ a ∷ rest) (λ (rows : List Adopted). IsJoined rows)
    (λ same. with_more v a rest (eqb-true a.version v same) is)
    (λ differ. (omega arith, λ same. eqb-false a.version v differ (sym same), is))

-- the rows are joined, the newest one first
newest_joined : (vs : List ℕ) → IsJoined (joined vs)
newest_joined [] = tt
newest_joined (v ∷ vs) = joined_on_is v (joined vs) (newest_joined vs)

-- also with the newer ones taken to the other side
turned_joined : (a : Adopted) (rest done : List Adopted) → IsJoined (a ∷ rest) → IsJoined (a ∷ done) → IsJoined (reverse_aux rest (a ∷ done))
turned_joined a [] done is so_far = so_far
turned_joined a (b ∷ rest) done is so_far = turned_joined b rest (a ∷ done) is.2 (some_entries b rest is.2, λ same. is.1 (sym same), so_far)

-- also the other way round
pub reversed_joined : (rows : List Adopted) → IsJoined rows → IsJoined (reverse rows)
reversed_joined [] is = tt
reversed_joined (a ∷ rest) is = turned_joined a rest [] is (some_entries a rest is)

-- and the oldest one first
pub joined_is : (vs : List ℕ) → IsJoined (reverse (joined vs))
joined_is vs = reversed_joined (joined vs) (newest_joined vs)

-- versions of rows, the newest first, are at most v and do not rise
abbrev FallsBelow : ℕ → List Adopted → Type 0
FallsBelow v [] = Unit {0}
FallsBelow v (a ∷ rest) = (a.version ≤ v) × FallsBelow a.version rest

-- with one more version that is no lower
joined_on_falls : (v w : ℕ) (rows : List Adopted) → v ≤ w → FallsBelow v rows → FallsBelow w (joined_on v rows)
joined_on_falls v w [] below falls = (below, tt)
joined_on_falls v w (a ∷ rest) below falls =
    cond_both (a.version == v) (record { version = v; entries = a.entries + 1 } ∷ rest) (record { version = v; entries = 1 } ∷ a ∷ rest) (λ (rows : List Adopted). FallsBelow w rows)
    (λ is. let same : a.version ≡ v = eqb-true a.version v is in (below, rw same at falls.1))
    (λ differ. (below, falls))

-- the rows do not rise, the newest one first
newest_falls : (v : ℕ) (vs : List ℕ) → Falls (v ∷ vs) → FallsBelow v (joined vs)
newest_falls v [] falls = tt
newest_falls v (w ∷ vs) falls = joined_on_falls w v (joined vs) falls.0 (newest_falls w vs falls.1)

-- with the newer ones taken to the other side
turned_falls : (rest : List Adopted) (a : Adopted) (done : List Adopted) → FallsBelow a.version rest → NeverFalls (a ∷ done) → NeverFalls (reverse_aux rest (a ∷ done))
turned_falls [] a done falls so_far = so_far
turned_falls (b ∷ rest) a done falls so_far = turned_falls rest b (a ∷ done) falls.1 (falls.0, so_far)

-- the other way round they do not fall
reversed_falls : (v : ℕ) (rows : List Adopted) → FallsBelow v rows → NeverFalls (reverse rows)
reversed_falls v [] falls = tt
reversed_falls v (a ∷ rest) falls = turned_falls rest a [] falls.1 tt

-- so they never fall, the oldest one first
pub joined_never_falls : (vs : List ℕ) → Falls vs → NeverFalls (reverse (joined vs))
joined_never_falls [] falls = tt
joined_never_falls (v ∷ vs) falls = reversed_falls v (joined_on v (joined vs)) (joined_on_falls v v (joined vs) (omega arith) (newest_falls v vs falls))

-- with one more version that has P
joined_on_all : (P : ℕ → Type 0) (v : ℕ) (rows : List Adopted) → P v → AllByRecursion (λ (a : Adopted). P a.version) rows → AllByRecursion (λ (a : Adopted). P a.version) (joined_on v rows)
joined_on_all P v [] has all = (has, tt)
joined_on_all P v (a ∷ rest) has all =
    cond_both (a.version == v) (record { version = v; entries = a.entries + 1 } ∷ rest) (record { version = v; entries = 1 } ∷ a ∷ rest)
    (λ (rows : List Adopted). AllByRecursion (λ (a : Adopted). P a.version) rows) (λ same. (has, all.1)) (λ differ. (has, all))

-- the version of each row has P, the newest one first
newest_all : (P : ℕ → Type 0) (vs : List ℕ) → AllByRecursion P vs → AllByRecursion (λ (a : Adopted). P a.version) (joined vs)
newest_all P [] all = tt
newest_all P (v ∷ vs) all = joined_on_all P v (joined vs) all.0 (newest_all P vs all.1)

-- what holds of each element, the other way round
turned_all : {X : Type 0} (Q : X → Type 0) (rest done : List X) → AllByRecursion Q rest → AllByRecursion Q done → AllByRecursion Q (reverse_aux rest done)
turned_all Q [] done all so_far = so_far
turned_all Q (x ∷ rest) done all so_far = turned_all Q rest (x ∷ done) all.1 (all.0, so_far)

-- and the oldest one first
pub joined_all : (P : ℕ → Type 0) (vs : List ℕ) → AllByRecursion P vs → AllByRecursion (λ (a : Adopted). P a.version) (reverse (joined vs))
joined_all P vs all = turned_all (λ (a : Adopted). P a.version) (joined vs) [] (newest_all P vs all) tt
