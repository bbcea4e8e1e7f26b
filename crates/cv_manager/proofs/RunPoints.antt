-- A run keeps its pc and the call addresses of its frames at points: the sites of an honest entry are
-- points, and what is seen in runs is seen at points.
use Rattle.std.proofs.Common.{◌≡◌, ℕ, suc, zero, Bool, true, false, eqb, List, [], ◌∷◌, ◌++◌, ◌∙◌, Option, Some, None, map, cond, refl, ap, subst, take, length, ◌+◌}
use Rattle.std.proofs.lemmas.Bool.{cond_both, not-false}
use Rattle.std.proofs.lemmas.List.Elements.{All-from_recursion, All-take}
use Rattle.std.proofs.lemmas.List.Folds.{list_all-append}
use Rattle.std.proofs.lemmas.List.Sums.{list_all-from_AllPass}
use Rattle.std.specs.List.{AllByRecursion, flat_map, list_all, slice_get}
use Rattle.std.specs.Prelude.{filter}
use Rattle.std.specs.Option.{option_and_then, option_map}
use Rattle.cv_base.specs.declared.ends.End.{End}
use Rattle.cv_base.specs.declared.ends.End.TheVariants.{Failure}
use Rattle.cv_base.specs.declared.entries.Entry.{Entry}
use Rattle.cv_base.specs.declared.patches.Action.{Action}
use Rattle.cv_base.specs.declared.patches.Action.TheVariants.{SetConst, SetCopy, SetSp, Skip, Return}
use Rattle.cv_base.specs.declared.patches.Patch.{Patch}
use Rattle.cv_base.specs.declared.patches.Patch.TheVariants.{Check, Enforce}
use Rattle.cv_base.specs.declared.plan.Mode.{Mode}
use Rattle.cv_base.specs.declared.plan.Mode.TheVariants.{Learn, Live}
use Rattle.cv_base.specs.Picture.{Picture, is_point, word_at}
use Rattle.cv_base.specs.PlanOf.{PlanOf}
use Rattle.cv_base.specs.WellFormed.{IsImage}
use Rattle.cv_isa.specs.declared.operation.Op.{Op}
use Rattle.cv_isa.specs.declared.operation.Op.TheVariants as op
use Rattle.cv_isa.specs.declared.uses.LinkKind.{LinkKind}
use Rattle.cv_isa.specs.declared.uses.LinkKind.TheVariants.{Nothing, Push, Pop, PopPush}
use Rattle.cv_isa.specs.DecodeTable.{meaning_of}
use Rattle.cv_isa.specs.Instruction.{Instruction, format_of}
use Rattle.cv_mem.specs.declared.space.MemFault.{MemFault}
use Rattle.cv_shadow.specs.declared.frames.Core.{Core}
use Rattle.cv_shadow.specs.declared.frames.Frame.{Frame}
use Rattle.cv_shadow.specs.Frames.{popped}
use Rattle.cv_runs.specs.Apply.{Note, Left, returned, act, one_patch, core_holds, patch_point, after, apply}
use Rattle.cv_runs.specs.Arithmetic.{plus32, computed}
use Rattle.cv_runs.specs.Effects.{gone_on, frames_after, jumped, branched, loaded_unless, stored_unless}
use Rattle.cv_runs.specs.BlockEntries.{is_entry, since_next}
use Rattle.cv_runs.specs.PatchedRun.{PatchedStep, PatchedTurn, Table, with_core, patched_turn, patched_step, followed, patched_from, entries_in, only_if, patched_run, steps_of}
use Rattle.cv_runs.specs.PlainRun.{Step, stepped, steps_from, plain_run, end_of}
use Rattle.cv_runs.specs.PlainTurn.{operand, operated, executed, decoded_turn, turn_of}
use Rattle.cv_runs.specs.Services.{answered, read_turn, write_turn, alloc_turn, free_turn, served}
use Rattle.cv_runs.specs.State.{State, Outcome, Next, Ended, start_state, pc_of, x}
use Rattle.cv_histories.specs.Honest.{IsHonest, IsOfMode}
use Rattle.cv_histories.specs.Runs as runs
use Rattle.cv_histories.specs.Runs.{Run}
use Rattle.cv_histories.specs.Seen.{Seen, is_observed, observed, observed_of}
use Rattle.cv_runs.specs.Learned.{observations}
use Rattle.cv_base.specs.declared.entries.Observation.{Observation}
use Rattle.cv_histories.specs.Rows.{sites_of, last_sites, sites_at_end, sites_in}

-- an address is a point
abbrev IsAt : Picture → ℕ → Type 0
IsAt image a = is_point image a ≡ true

-- each frame's call is at a point
abbrev Calls : Picture → List Frame → Type 0
Calls image frames = AllByRecursion (λ (f : Frame). IsAt image f.call) frames

-- the pc and the calls are at points
record Sound (image : Picture) (core : Core) : Type 0 where
  pc : IsAt image core.pc
  calls : Calls image core.frames

abbrev NextIsSound : Picture → Outcome → Type 0
NextIsSound image (Next s transfer) = Sound image s.core
NextIsSound image (Ended end) = Unit {0}

-- where the run goes on, it does so in a sound state
record Leads (image : Picture) (o : Outcome) : Type 0 where
  next : NextIsSound image o

-- patches leave a sound core
record Leaves (image : Picture) (left : Left) : Type 0 where
  core : Sound image left.core

module _ (image : Picture) where
  ends : (end : End) → Leads image (Ended end)
  ends end = record { next = tt }

  goes : (s : State) (transfer : Bool) → IsAt image s.core.pc → Calls image s.core.frames → Leads image (Next s transfer)
  goes s transfer is calls = record { next = record { pc = is; calls = calls } }

  either_leads : (b : Bool) (here there : Outcome) → (b ≡ true → Leads image here) → (b ≡ false → Leads image there) → Leads image (cond b here there)
  either_leads true here there h t = h refl
  either_leads false here there h t = t refl

  -- turns

  on_leads : (s : State) (transfer : Bool) → Calls image s.core.frames → Leads image (gone_on image s transfer)
  on_leads s transfer calls =
      cond_both _ _ _ (Leads image) (λ is. goes _ transfer is calls) (λ _. ends _)

  popped_calls : (frames : List Frame) (target : ℕ) → Calls image frames → Calls image (popped frames target)
  popped_calls [] target calls = tt
  popped_calls (f ∷ fs) target calls =
      cond_both (eqb f.back target) fs (f ∷ fs) (Calls image) (λ _. calls.1) (λ _. calls)

  after_calls : (link : LinkKind) (frames : List Frame) (frame : Frame) (target : ℕ) → Calls image frames → IsAt image frame.call → Calls image (frames_after link frames frame target)
  after_calls Nothing frames frame target calls is = calls
  after_calls Push frames frame target calls is = (is, calls)
  after_calls Pop frames frame target calls is = popped_calls frames target calls
  after_calls PopPush frames frame target calls is = (is, popped_calls frames target calls)

  jump_leads : (s : State) (link : LinkKind) (rd target : ℕ) → Sound image s.core → Leads image (jumped image s link rd target)
  jump_leads s link rd target sound =
      search (either_leads, ends, goes, not-false, after_calls, sound) depth 7

  branch_leads : (s : State) (i : Instruction) → Calls image s.core.frames → Leads image (branched image s i)
  branch_leads s i calls = search (either_leads, goes, ends, on_leads, calls)

  load_leads : (s : State) (i : Instruction) (fault : Option MemFault) → Calls image s.core.frames → Leads image (loaded_unless image s i fault)
  load_leads s i (Some f) calls = ends _
  load_leads s i None calls = on_leads _ false calls

  store_leads : (s : State) (i : Instruction) (fault : Option MemFault) → Calls image s.core.frames → Leads image (stored_unless image s i fault)
  store_leads s i (Some f) calls = ends _
  store_leads s i None calls = search (either_leads, ends, on_leads)

  answer_leads : (s : State) (answer : ℕ) → Calls image s.core.frames → Leads image (answered image s answer)
  answer_leads s answer calls = on_leads _ true calls

  read_leads : (s : State) → Calls image s.core.frames → Leads image (read_turn image s)
  read_leads s calls = search (either_leads, ends, answer_leads)

  write_leads : (s : State) → Calls image s.core.frames → Leads image (write_turn image s)
  write_leads s calls = search (either_leads, answer_leads)

  alloc_leads : (s : State) → Calls image s.core.frames → Leads image (alloc_turn image s)
  alloc_leads s calls = search (either_leads, answer_leads)

  free_leads : (s : State) → Calls image s.core.frames → Leads image (free_turn image s)
  free_leads s calls = search (either_leads, answer_leads)

  served_leads : (s : State) → Calls image s.core.frames → Leads image (served image s)
  served_leads s calls =
      search (either_leads, ends, read_leads, write_leads, alloc_leads, free_leads, answer_leads) depth 8

  operated_leads : (s : State) (i : Instruction) (value : Option ℕ) → Calls image s.core.frames → Leads image (operated image s i value)
  operated_leads s i (Some value) calls = on_leads _ false calls
  operated_leads s i None calls = branch_leads s i calls

  executed_leads : (s : State) (i : Instruction) (operation : Op) → Sound image s.core → Leads image (executed image s i operation)
  executed_leads s i op.Lui sound = on_leads _ false sound.calls
  executed_leads s i op.Auipc sound = on_leads _ false sound.calls
  executed_leads s i op.Jal sound = jump_leads s _ _ _ sound
  executed_leads s i op.Jalr sound = jump_leads s _ _ _ sound
  executed_leads s i op.Lb sound = load_leads s i _ sound.calls
  executed_leads s i op.Lh sound = load_leads s i _ sound.calls
  executed_leads s i op.Lw sound = load_leads s i _ sound.calls
  executed_leads s i op.Lbu sound = load_leads s i _ sound.calls
  executed_leads s i op.Lhu sound = load_leads s i _ sound.calls
  executed_leads s i op.Sb sound = store_leads s i _ sound.calls
  executed_leads s i op.Sh sound = store_leads s i _ sound.calls
  executed_leads s i op.Sw sound = store_leads s i _ sound.calls
  executed_leads s i op.Fence sound = on_leads s false sound.calls
  executed_leads s i op.Ecall sound = served_leads s sound.calls
  executed_leads s i op.Ebreak sound = ends _
  executed_leads s i operation sound =
      operated_leads s i (computed operation (x s i.rs1) (operand (format_of operation) s i)) sound.calls

  decoded_leads : (s : State) (word : ℕ) (i : Option Instruction) → Sound image s.core → Leads image (decoded_turn image s word i)
  decoded_leads s word None sound = ends _
  decoded_leads s word (Some i) sound = executed_leads s i i.op sound

  turn_leads : (s : State) → Sound image s.core → Leads image (turn_of image s)
  unfolding turn_of
  turn_leads s sound =
      decoded_leads s (word_at image (pc_of s)) (meaning_of (word_at image (pc_of s))) sound

  -- patches

  left_at : (core : Core) (notes : List Note) (acted : Bool) → IsAt image core.pc → Calls image core.frames → Leaves image (record { core = core; notes = notes; acted = acted })
  left_at core notes acted is calls = record { core = record { pc = is; calls = calls } }

  either_leaves : (b : Bool) (here there : Left) → (b ≡ true → Leaves image here) → (b ≡ false → Leaves image there) → Leaves image (cond b here there)
  either_leaves true here there h t = h refl
  either_leaves false here there h t = t refl

  returned_leaves : (offset : ℕ) (core : Core) (frames : List Frame) (notes : List Note) → Sound image core → Calls image frames → Leaves image (returned (is_point image) offset core frames notes)
  returned_leaves offset core [] notes sound calls = left_at core notes false sound.pc sound.calls
  returned_leaves offset core (f ∷ fs) notes sound calls =
      either_leaves (is_point image f.back) _ _ (λ is. left_at _ notes true is calls.1) (λ _. left_at core notes false sound.pc sound.calls)

  act_leaves : (action : Action) (core : Core) (notes : List Note) → Sound image core → Leaves image (act (is_point image) action core notes)
  act_leaves (SetConst reg value) core notes sound = left_at _ notes false sound.pc sound.calls
  act_leaves (SetCopy reg source) core notes sound = left_at _ notes false sound.pc sound.calls
  act_leaves (SetSp offset) core notes sound = left_at _ notes false sound.pc sound.calls
  act_leaves Skip core notes sound =
      either_leaves (is_point image (plus32 core.pc 4)) _ _ (λ is. left_at _ notes true is sound.calls) (λ _. left_at core notes false sound.pc sound.calls)
  act_leaves (Return offset) core notes sound =
      returned_leaves offset core core.frames notes sound sound.calls

  one_leaves : (patch : Patch) (core : Core) → Sound image core → Leaves image (one_patch (is_point image) patch core)
  one_leaves (Check case index invariant) core sound = left_at core _ false sound.pc sound.calls
  one_leaves (Enforce case index invariant action) core sound =
      either_leaves (core_holds invariant core) _ _ (λ _. left_at core [] false sound.pc sound.calls) (λ _. act_leaves action core _ sound)

  chosen_leaves : (b : Bool) (here there : Left) → Leaves image here → Leaves image there → Leaves image (elim b [ true ↦ here | false ↦ there ])
  chosen_leaves true here there h t = h
  chosen_leaves false here there h t = t

  apply_leaves : (p : ℕ) (table : List Patch) (core : Core) → Sound image core → Leaves image (apply (is_point image) p table core)
  apply_leaves p [] core sound = left_at core [] false sound.pc sound.calls
  apply_leaves p (q ∷ qs) core sound =
      let here : Left = one_patch (is_point image) q core in
      let one : Leaves image here = one_leaves q core sound in
      let later : Left = apply (is_point image) p qs here.core in
      chosen_leaves (eqb (patch_point q) p) (elim (here.acted) [ true ↦ here | false ↦ after here later ]) (apply (is_point image) p qs core)
      (chosen_leaves here.acted here (after here later) one (record { core = (apply_leaves p qs here.core one.core).core }))
      (apply_leaves p qs core sound)

  -- runs

  abbrev AreSound : List Step → Type 0
  AreSound steps = AllByRecursion (λ (step : Step). Sound image step.before.core) steps

  stepped_sound : (s : State) (o : Outcome) (rest : State → List Step) → Sound image s.core → Leads image o → ((next : State) → Sound image next.core → AreSound (rest next)) → AreSound (stepped s o rest)
  stepped_sound s (Next next transfer) rest sound leads later = (sound, later next leads.next)
  stepped_sound s (Ended end) rest sound leads later = (sound, tt)

  steps_sound : (budget : ℕ) (s : State) → Sound image s.core → AreSound (steps_from image budget s)
  unfolding steps_from
  steps_sound zero s sound = tt
  steps_sound (suc budget) s sound =
      stepped_sound s (turn_of image s) (λ next. steps_from image budget next) sound (turn_leads s sound) (λ next is. steps_sound budget next is)

  -- a patched run, if there is one
  abbrev RunIsSound : Option (List PatchedStep) → Type 0
  RunIsSound None = Unit {0}
  RunIsSound (Some steps) = AreSound (steps_of steps)

  abbrev turn_if : Bool → State → Left → PatchedTurn
  turn_if acted s left =
      elim acted [
        | true ↦ record { notes = left.notes; outcome = Next (with_core s left.core) true }
        | false ↦ record { notes = left.notes; outcome = turn_of image (with_core s left.core) }
      ]

  turn_if_leads : (acted : Bool) (s : State) (left : Left) → Leaves image left → Leads image (turn_if acted s left).outcome
  turn_if_leads true s left leaves = goes (with_core s left.core) true leaves.core.pc leaves.core.calls
  turn_if_leads false s left leaves = turn_leads (with_core s left.core) leaves.core

  patched_leads : (s : State) (table : Table) → Sound image s.core → Leads image (patched_turn image table s).outcome
  patched_leads s table sound =
      let left : Left = apply (is_point image) s.core.pc table s.core in
      turn_if_leads left.acted s left (apply_leaves s.core.pc table s.core sound)

  more_sound : (step : PatchedStep) (rest : Option (List PatchedStep)) → Sound image step.before.core → RunIsSound rest → RunIsSound (option_map (λ (steps : List PatchedStep). step ∷ steps) rest)
  more_sound step None sound later = tt
  more_sound step (Some steps) sound later = (sound, later)

  followed_sound : (step : PatchedStep) (o : Outcome) (rest : State → Bool → Option (List PatchedStep)) → Sound image step.before.core → Leads image o → ((next : State) (transfer : Bool) → Sound image next.core → RunIsSound (rest next transfer)) → RunIsSound (followed step o rest)
  followed_sound step (Next next transfer) rest sound leads later =
      more_sound step (rest next transfer) sound (later next transfer leads.next)
  followed_sound step (Ended end) rest sound leads later = (sound, tt)

  under_sound : (table : Option Table) (run : Table → Option (List PatchedStep)) → ((t : Table) → RunIsSound (run t)) → RunIsSound (option_and_then run table)
  under_sound None run each = tt
  under_sound (Some t) run each = each t

  patched_sound : (tables : ℕ → Option Table) (budget : ℕ) (s : State) (since : Option ℕ) (transferred : Bool) (made : ℕ) (table : Table) → Sound image s.core → RunIsSound (patched_from image tables budget s since transferred made table)
  unfolding patched_from
  patched_sound tables zero s since transferred made table sound = tt
  patched_sound tables (suc budget) s since transferred made table sound =
      let enters : Bool = is_entry since transferred in
      under_sound (cond enters (tables made) (Some table))
      (λ t. followed (patched_step s enters (patched_turn image t s)) (patched_turn image t s).outcome (λ next transfer. patched_from image tables budget next (since_next enters since) transfer (cond enters (made + 1) made) t))
      (λ t. followed_sound (patched_step s enters (patched_turn image t s)) (patched_turn image t s).outcome (λ next transfer. patched_from image tables budget next (since_next enters since) transfer (cond enters (made + 1) made) t) sound (patched_leads s t sound)
      (λ next transfer is. patched_sound tables budget next (since_next enters since) transfer (cond enters (made + 1) made) t is))

  only_sound : (test : List PatchedStep → Bool) (run : Option (List PatchedStep)) → RunIsSound run → RunIsSound (only_if test run)
  only_sound test None sound = tt
  only_sound test (Some steps) sound =
      cond_both (test steps) (Some steps) None RunIsSound (λ _. sound) (λ _. tt)

  start_sound : IsImage image → (input : List ℕ) → Sound image (start_state image input).core
  start_sound is input = record { pc = is.entry; calls = tt }

  plain_run_sound : IsImage image → (input : List ℕ) (budget : ℕ) → AreSound (plain_run image input budget)
  plain_run_sound is input budget = steps_sound budget (start_state image input) (start_sound is input)

  patched_run_sound : IsImage image → (input : List ℕ) (budget : ℕ) (tables : List Table) → RunIsSound (patched_run image input budget tables)
  patched_run_sound is input budget tables =
      only_sound (λ steps. eqb (entries_in steps) (length tables)) (patched_from image (slice_get tables) budget (start_state image input) None false 0 [])
      (patched_sound (slice_get tables) budget (start_state image input) None false 0 [] (start_sound is input))

  -- sites

  abbrev ArePoints : List ℕ → Type 0
  ArePoints sites = list_all (is_point image) sites ≡ true

  calls_at : (frames : List Frame) → Calls image frames → AllByRecursion (IsAt image) (map (λ (f : Frame). f.call) frames)
  calls_at [] calls = tt
  calls_at (f ∷ fs) calls = (calls.0, calls_at fs calls.1)

  sites_at : (s : State) → Sound image s.core → ArePoints (sites_of s)
  sites_at s sound =
      let sites : List ℕ = s.core.pc ∷ map (λ (f : Frame). f.call) s.core.frames in
      list_all-from_AllPass (is_point image) (take 4 sites)
      (All-take (IsAt image) 4 sites (All-from_recursion (IsAt image) sites (sound.pc, calls_at s.core.frames sound.calls)))

  last_at : (steps : List Step) → AreSound steps → ArePoints (last_sites steps)
  last_at [] sound = refl
  last_at (step ∷ []) sound = sites_at step.before sound.0
  last_at (step ∷ next ∷ steps) sound = last_at (next ∷ steps) sound.1

  end_at : (end : End) (steps : List Step) → AreSound steps → ArePoints (sites_at_end end steps)
  end_at (Failure id detail) steps sound = last_at steps sound
  end_at _ steps sound = refl

  run_at : (steps : List Step) → AreSound steps → ArePoints (sites_in steps)
  run_at steps sound = end_at (end_of steps) steps sound

  -- observations

  abbrev AreSeenAt : List Observation → Type 0
  AreSeenAt seen = list_all (λ (o : Observation). is_point image o.point) seen ≡ true

  seen_at : (steps : List Step) → AreSound steps → AreSeenAt (observations steps)
  seen_at [] sound = refl
  seen_at (step ∷ steps) sound = rw (sound.0.pc) (seen_at steps sound.1)

  both_seen_at : (xs ys : List Observation) → AreSeenAt xs → AreSeenAt ys → AreSeenAt (xs ++ ys)
  both_seen_at xs ys first later = list_all-append _ xs ys ∙ rw (first, later) refl

mode_at : (mode : Mode) (plan : PlanOf) (versions : List Table) (input : List ℕ) (e : Entry) → IsImage plan.image → IsOfMode mode plan versions input e → list_all (is_point plan.image) e.sites ≡ true
mode_at Learn plan versions input e is ran =
    ap (list_all (is_point plan.image)) ran.tells.sites
    ∙ run_at plan.image (plain_run plan.image input plan.budget) (plain_run_sound plan.image is input plan.budget)
mode_at Live plan versions input e is ran =
    ap (list_all (is_point plan.image)) ran.tells.sites
    ∙ run_at plan.image (steps_of ran.steps) (subst (RunIsSound plan.image) ran.ran (patched_run_sound plan.image is input plan.budget ran.tables))

pub sites_are_points : (plan : PlanOf) (versions : List Table) (e : Entry) → IsImage plan.image → IsHonest plan versions e → list_all (is_point plan.image) e.sites ≡ true
sites_are_points plan versions e is honest = mode_at e.mode plan versions honest.run.input e is honest.as_it_ran

abbrev run_of : PlanOf → Seen → Option Run
run_of plan s = runs.run_at plan s.entry.run

run_seen_at : (plan : PlanOf) (run : Option Run) → IsImage plan.image → AreSeenAt plan.image (observed_of plan run)
run_seen_at plan None is = refl
run_seen_at plan (Some run) is =
    seen_at plan.image (plain_run plan.image run.input plan.budget) (plain_run_sound plan.image is run.input plan.budget)

seen_if : (plan : PlanOf) (observed : Bool) (s : Seen) (rest : List Seen) → IsImage plan.image
    → AreSeenAt plan.image (flat_map (λ (s : Seen). observed_of plan (run_of plan s)) rest)
    → AreSeenAt plan.image (flat_map (λ (s : Seen). observed_of plan (run_of plan s)) (cond observed (s ∷ rest) rest))
seen_if plan true s rest is later = both_seen_at plan.image (observed_of plan (run_of plan s)) _ (run_seen_at plan (run_of plan s) is) later
seen_if plan false s rest is later = later

-- what is seen in the runs that are learned from is seen at points
pub observed_at_points : (plan : PlanOf) (past : List Seen) → IsImage plan.image → list_all (λ (o : Observation). is_point plan.image o.point) (observed plan past) ≡ true
observed_at_points plan [] is = refl
observed_at_points plan (s ∷ past) is =
    seen_if plan (is_observed s.entry) s (filter (λ (s : Seen). is_observed s.entry) past) is (observed_at_points plan past is)
