-- A patched run without a firing makes the steps of the plain run.
use Rattle.std.proofs.Common.{◌≡◌, ℕ, zero, suc, ◌+◌, Bool, false, List, [], ◌∷◌, Option, Some, None, refl, sym, ap, ◌∙◌}
use Rattle.std.specs.Prelude.{◌==◌, if◌then◌else◌, length, option_map, option_and_then, slice_get}
use Rattle.cv_base.specs.Picture.{Picture}
use Rattle.cv_laws.proofs.IdlePatches.{plain_turn}
use Rattle.cv_laws.proofs.NoFirings.{unfired_parts}
use Rattle.cv_histories.specs.Rows.{firings_in}
use Rattle.cv_laws.proofs.OneTable.{kept}
use Rattle.cv_laws.proofs.PlainSteps.{no_turn, turn_first}
use Rattle.cv_runs.specs.BlockEntries.{is_entry, since_next}
use Rattle.cv_runs.specs.PatchedRun.{Table, PatchedTurn, PatchedStep, patched_turn, patched_step, followed, patched_from, entries_in, patched_run, steps_of, notes_of}
use Rattle.cv_runs.specs.PlainRun.{Step, steps_from, plain_run}
use Rattle.cv_runs.specs.PlainTurn.{turn_of}
use Rattle.cv_runs.specs.State.{State, Outcome, Next, Ended, start_state}

-- what is to be shown of a patched run from the state s on
abbrev IsPlain : Picture → ℕ → State → Option (List PatchedStep) → Type 0
IsPlain image budget s run = (steps : List PatchedStep) → run ≡ Some steps → firings_in (notes_of steps) ≡ [] → steps_of steps ≡ steps_from image budget s

-- a step whose turn is plain where it has no firing, and what follows it
module _ (image : Picture) (budget : ℕ) (s : State) (enters : Bool) (turn : PatchedTurn) (plain : firings_in turn.notes ≡ [] → turn.outcome ≡ turn_of image s) where
  mapped_plain : (run : Option (List PatchedStep)) (next : State) (transfer : Bool) → turn.outcome ≡ Next next transfer → IsPlain image budget next run → IsPlain image (suc budget) s (option_map (λ (steps : List PatchedStep). patched_step s enters turn ∷ steps) run)
  mapped_plain None next transfer is rest steps ran none = absurd cc
  mapped_plain (Some later) next transfer is rest steps ran none =
      let parts : steps ≡ patched_step s enters turn ∷ later = cc in
      let apart = unfired_parts turn.notes (notes_of later) (ap (λ (l : List PatchedStep). firings_in (notes_of l)) (sym parts) ∙ none) in
      ap steps_of parts
      ∙ ap (λ (o : Outcome). record { before = s; outcome = o } ∷ steps_of later) is
      ∙ ap (λ (l : List Step). record { before = s; outcome = Next next transfer } ∷ l) (rest later refl apart.1)
      ∙ sym (turn_first image budget s (Next next transfer) (sym (plain apart.0) ∙ is))

  followed_plain : (o : Outcome) (rest : State → Bool → Option (List PatchedStep)) → turn.outcome ≡ o → ((next : State) (transfer : Bool) → IsPlain image budget next (rest next transfer)) → IsPlain image (suc budget) s (followed (patched_step s enters turn) o rest)
  followed_plain (Next next transfer) rest is later steps ran none = mapped_plain (rest next transfer) next transfer is (later next transfer) steps ran none
  followed_plain (Ended end) rest is later steps ran none =
      let parts : steps ≡ patched_step s enters turn ∷ [] = cc in
      let apart = unfired_parts turn.notes [] (ap (λ (l : List PatchedStep). firings_in (notes_of l)) (sym parts) ∙ none) in
      let made : steps_of steps ≡ record { before = s; outcome = turn.outcome } ∷ [] = ap steps_of parts in
      let last : steps_of steps ≡ record { before = s; outcome = Ended end } ∷ [] = made ∙ ap (λ (o : Outcome). record { before = s; outcome = o } ∷ []) is in
      last ∙ sym (turn_first image budget s (Ended end) (sym (plain apart.0) ∙ is))

-- the same under the table that is adopted, or the one at hand
chosen_plain : (image : Picture) (budget : ℕ) (s : State) (enters : Bool) (rest : Table → State → Bool → Option (List PatchedStep)) → ((table : Table) (next : State) (transfer : Bool) → IsPlain image budget next (rest table next transfer)) → (table : Option Table) → IsPlain image (suc budget) s (option_and_then (λ (t : Table). followed (patched_step s enters (patched_turn image t s)) (patched_turn image t s).outcome (rest t)) table)
chosen_plain image budget s enters rest later None steps ran none = absurd cc
chosen_plain image budget s enters rest later (Some t) steps ran none =
    followed_plain image budget s enters (patched_turn image t s) (plain_turn image t s) (patched_turn image t s).outcome (rest t) refl (later t) steps ran none

-- a patched run without a firing, from any turn on
plain_from : (image : Picture) (tables : ℕ → Option Table) (budget : ℕ) (s : State) (since : Option ℕ) (transferred : Bool) (made : ℕ) (table : Table) → IsPlain image budget s (patched_from image tables budget s since transferred made table)
unfolding patched_from
plain_from image tables zero s since transferred made table steps ran none =
    let empty : steps ≡ [] = cc in
    ap steps_of empty ∙ sym (no_turn image s)
plain_from image tables (suc budget) s since transferred made table steps ran none =
    let enters : Bool = is_entry since transferred in
    chosen_plain image budget s enters
    (λ t next transfer. patched_from image tables budget next (since_next enters since) transfer (if enters then made + 1 else made) t)
    (λ t next transfer. plain_from image tables budget next (since_next enters since) transfer (if enters then made + 1 else made) t)
    (if enters then tables made else Some table) steps ran none

-- a patched run without a firing makes the steps of the plain run
pub plain_steps : (image : Picture) (input : List ℕ) (budget : ℕ) (tables : List Table) (steps : List PatchedStep) → patched_run image input budget tables ≡ Some steps → firings_in (notes_of steps) ≡ [] → steps_of steps ≡ plain_run image input budget
plain_steps image input budget tables steps ran none =
    plain_from image (slice_get tables) budget (start_state image input) None false 0 [] steps
    (kept (λ (steps : List PatchedStep). entries_in steps == length tables) _ steps ran).0 none
