-- What each form of instruction does, its tests in their order (docs/MACHINE.md, "The nine tests").
-- RISC-V Unprivileged ISA, 2.4 "Integer Computational Instructions", 2.5 "Control Transfer
-- Instructions", 2.6 "Load and Store Instructions".
use Rattle.std.specs.Prelude.{ℕ, Bool, true, false, not, ◌&&◌, ◌-◌, ◌%◌, nat_le, if◌then◌else◌, List, ◌∷◌, length, Option, Some, None}
use Rattle.cv_base.specs.declared.ends.CrashCause.TheVariants as crash
use Rattle.cv_base.specs.declared.ends.FailureKind.{FailureKind}
use Rattle.cv_base.specs.declared.ends.FailureKind.TheVariants.{IllegalTransfer, HeapGuard, ShadowStack, Crash}
use Rattle.cv_base.specs.Picture.{Picture, is_point}
use Rattle.cv_base.specs.Regions.{regions_of, is_heap, some_address}
use Rattle.cv_isa.specs.Bits.{sign_extend}
use Rattle.cv_isa.specs.declared.operation.Op.{Op}
use Rattle.cv_isa.specs.declared.operation.Op.TheVariants as op
use Rattle.cv_isa.specs.Instruction.{Instruction}
use Rattle.cv_isa.specs.declared.uses.LinkKind.{LinkKind}
use Rattle.cv_isa.specs.declared.uses.LinkKind.TheVariants.{Nothing, Push, Pop, PopPush}
use Rattle.cv_heap.specs.Heap.{Heap, covers}
use Rattle.cv_mem.specs.declared.space.MemFault.{MemFault}
use Rattle.cv_mem.specs.declared.space.MemFault.TheVariants as fault
use Rattle.cv_mem.specs.Memory.{load_fault, store_fault, loaded, stored}
use Rattle.cv_shadow.specs.declared.TheConstants.{MOST_FRAMES}
use Rattle.cv_shadow.specs.declared.frames.Frame.{Frame}
use Rattle.cv_shadow.specs.declared.frames.PopEnd.{PopEnd}
use Rattle.cv_shadow.specs.declared.frames.PopEnd.TheVariants.{Match}
use Rattle.cv_shadow.specs.Frames.{pop_end, popped}
use Rattle.cv_runs.specs.Arithmetic.{plus32, is_taken}
use Rattle.cv_runs.specs.State.{State, Outcome, Next, pc_of, x, moved, with_x, failed}

-- on to the next word, which has to be a point
abbrev pub gone_on : Picture → State → Bool → Outcome
gone_on image s transfer =
    let next = plus32 (pc_of s) 4 in
    if is_point image next then Next (moved s next) transfer else failed s IllegalTransfer next

-- register rd is written, and the run goes on at the next word
abbrev pub advanced : Picture → State → ℕ → ℕ → Outcome
advanced image s rd value = gone_on image (with_x s rd value) false

-- Jumps. A call pushes a frame, a return pops the frame that it returns to.

abbrev pub pops : LinkKind → Bool
pops Pop = true
pops PopPush = true
pops _ = false

abbrev pub pushes_alone : LinkKind → Bool
pushes_alone Push = true
pushes_alone _ = false

abbrev pub is_match : PopEnd → Bool
is_match Match = true
is_match _ = false

-- the frame of a call
abbrev pub new_frame : State → Frame
new_frame s = record { call = pc_of s; back = plus32 (pc_of s) 4; sp = x s 2 }

-- the frames after a jump that found its return where it pops
abbrev pub frames_after : LinkKind → List Frame → Frame → ℕ → List Frame
frames_after Nothing frames frame target = frames
frames_after Push frames frame target = frame ∷ frames
frames_after Pop frames frame target = popped frames target
frames_after PopPush frames frame target = frame ∷ popped frames target

abbrev pub with_frames : State → List Frame → State
with_frames s frames = record s { core = record s.core { frames = frames } }

abbrev pub jumped : Picture → State → LinkKind → ℕ → ℕ → Outcome
jumped image s link rd target =
    if pops link && not (is_match (pop_end s.core.frames target)) then failed s ShadowStack target
    else if not (is_point image target) then failed s IllegalTransfer target
    else if pushes_alone link && nat_le MOST_FRAMES (length s.core.frames) then failed s (Crash crash.Deep) target
    else Next (with_frames (moved (with_x s rd (plus32 (pc_of s) 4)) target) (frames_after link s.core.frames (new_frame s) target)) true

-- JALR: the sum of rs1 and the immediate, with bit 0 cleared
abbrev pub indirect_target : State → Instruction → ℕ
indirect_target s i = let sum = plus32 (x s i.rs1) i.imm in sum - sum % 2

-- a branch: its target where it is taken, else the next word
abbrev pub branched : Picture → State → Instruction → Outcome
branched image s i =
    let target = plus32 (pc_of s) i.imm in
    if is_taken i.op (x s i.rs1) (x s i.rs2)
    then (if is_point image target then Next (moved s target) true else failed s IllegalTransfer target)
    else gone_on image s true

-- Loads and stores.

abbrev pub crash_of : MemFault → FailureKind
crash_of fault.Misaligned = Crash crash.Misaligned
crash_of fault.Unreadable = Crash crash.Unreadable
crash_of fault.Code = Crash crash.Code
crash_of fault.Unwritable = Crash crash.Unwritable

abbrev pub address_of : State → Instruction → ℕ
address_of s i = plus32 (x s i.rs1) i.imm

-- the bytes that a load or a store moves
abbrev pub size_of : Op → ℕ
size_of op.Lb = 1
size_of op.Lbu = 1
size_of op.Sb = 1
size_of op.Lh = 2
size_of op.Lhu = 2
size_of op.Sh = 2
size_of _ = 4

-- LB and LH extend the sign, LBU and LHU zeros
abbrev pub extended : Op → ℕ → ℕ
extended op.Lb value = sign_extend 8 value
extended op.Lh value = sign_extend 16 value
extended _ value = value

abbrev pub loaded_unless : Picture → State → Instruction → Option MemFault → Outcome
loaded_unless image s i (Some f) = failed s (crash_of f) (address_of s i)
loaded_unless image s i None = advanced image s i.rd (extended i.op (loaded s.memory (address_of s i) (size_of i.op)))

abbrev pub loaded_turn : Picture → State → Instruction → Outcome
loaded_turn image s i = loaded_unless image s i (load_fault (regions_of image) (address_of s i) (size_of i.op))

-- an access touches the heap, and not inside one live block alone
abbrev pub is_guarded : Heap → ℕ → ℕ → Bool
is_guarded heap a count = some_address is_heap a count && not (covers heap a count)

abbrev pub stored_unless : Picture → State → Instruction → Option MemFault → Outcome
stored_unless image s i (Some f) = failed s (crash_of f) (address_of s i)
stored_unless image s i None =
    if is_guarded s.heap (address_of s i) (size_of i.op) then failed s HeapGuard (address_of s i)
    else gone_on image (record s { memory = stored s.memory (address_of s i) (size_of i.op) (x s i.rs2) }) false

abbrev pub stored_turn : Picture → State → Instruction → Outcome
stored_turn image s i = stored_unless image s i (store_fault (regions_of image) (address_of s i) (size_of i.op))
