use Rattle.std.proofs.Common.{◌≡◌, ◌<◌, ◌+◌, ℕ, List, [], ◌∷◌, ◌∙◌, ◌++◌, Option, Some, ap, arith, drop, length, refl, string_bytes, sym}
use Rattle.std.proofs.lemmas.List.{length-map}
use Rattle.std.proofs.lemmas.Option.{slice_get-map, slice_get_read}
use Rattle.std.specs.Option.{option_map}
use Rattle.std.specs.Prelude.{slice_get}
use Rattle.cv_histories.specs.Report.{line, makers, version_lines}
use Rattle.cv_manager.specs.ManagerOf.{ledger_in}
use Rattle.cv_report.proofs.Lines.{all_done, drop_at, one_more}
use Rattle.cv_report.specs.Pieces.{version_line}
use Rattle.cv_runs.specs.PatchedRun.{Table}
use Rattle.cv_report.proofs.whole.add_versions.Goals as goal

-- the lines of tables from a number on
lines_with : List (Option ℕ) → ℕ → List Table → List ℕ
lines_with made_by v tables = version_lines v (drop v made_by) tables

one_version : (made_by : List (Option ℕ)) (v : ℕ) (maker : Option ℕ) (t : Table) (rest : List Table) → slice_get made_by v ≡ Some maker
    → lines_with made_by v (t ∷ rest) ≡ line (version_line v maker (length t)) ++ lines_with made_by (v + 1) rest
unfolding lines_with
one_version made_by v maker t rest is = ap (λ (ms : List (Option ℕ)). version_lines v ms (t ∷ rest)) (drop_at made_by v maker is)

no_version : (v : ℕ) (ms : List (Option ℕ)) → version_lines v ms [] ≡ []
no_version v [] = refl
no_version v (m ∷ ms) = refl

pub loop-version-preserved : goal.loop-version-preserved
unfolding lines_with
loop-version-preserved c =
    let m = c.args.manager.now in
    let at = c.loop-version.version in
    let list = c.versions-versions.result.now in
    let t = c.index-versions-version.result in
    let made_by = makers m.plan m.past in
    let within : at < length list = omega (arith, ap length c.versions-versions.ensures, length-map list (λ t. t.value)) in
    let count = c.len-patches.ensures ∙ ap length (c.behind-versions.view_is ∙ c.deref.ensures) in
    one_more (lines_with made_by) (ledger_in m).versions at t.value
    (line (version_line at c.made_by-maker.result (length t.value))) _ _ _
    (ap (λ l. slice_get l at) (sym c.versions-versions.ensures)
    ∙ slice_get-map (λ t. t.value) list at
    ∙ ap (option_map (λ t. t.value)) (slice_get_read list _ at t refl within c.index-versions-version.is))
    (one_version made_by at c.made_by-maker.result t.value _ (sym c.made_by-maker.ensures))
    c.loop-version.invariant
    (c.in_ok-push_str.ensures.bytes
    ∙ ap (λ l. string_bytes c.loop-version.text ++ l)
    (c.as_str.ensures.value ∙ c.in_ok-line.ensures ∙ ap (λ n. line (version_line at c.made_by-maker.result n)) count))

pub returns : goal.returns
unfolding lines_with
returns c =
    let m = c.args.manager.now in
    all_done (lines_with (makers m.plan m.past)) (ledger_in m).versions c.loop-version.version _ _ (omega (arith, c.version_count-version-end.ensures.count)) (no_version _ _) c.loop-version.invariant
