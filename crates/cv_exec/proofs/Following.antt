-- A plain turn that is no transfer goes on at the next word.
use Rattle.std.proofs.Common.{◌≡◌, ℕ, Bool, true, false, Option, Some, None, length, refl, ap}
use Rattle.std.specs.Prelude.{not, ◌&&◌, ◌||◌, ◌==◌, nat_le, if◌then◌else◌}
use Rattle.cv_base.specs.Picture.{Picture, is_point, word_at}
use Rattle.cv_base.specs.Regions.{each_address, is_readable, is_writable, regions_of}
use Rattle.cv_heap.specs.Heap.{begins_block, has_room, with_block, without_block}
use Rattle.cv_isa.specs.declared.operation.Op.{Op}
use Rattle.cv_isa.specs.declared.operation.Op.TheVariants as op
use Rattle.cv_isa.specs.declared.uses.LinkKind.{LinkKind}
use Rattle.cv_isa.specs.DecodeTable.{meaning_of}
use Rattle.cv_isa.specs.Instruction.{Instruction, format_of}
use Rattle.cv_isa.specs.Uses.{link_kind_of}
use Rattle.cv_mem.specs.declared.space.MemFault.{MemFault}
use Rattle.cv_mem.specs.Memory.{load_fault, loaded, store_fault, stored}
use Rattle.cv_runs.specs.Arithmetic.{computed, is_taken, plus32}
use Rattle.cv_runs.specs.Effects.{address_of, branched, extended, gone_on, indirect_target, is_guarded, is_match, jumped, loaded_unless, pops, pushes_alone, size_of, stored_unless}
use Rattle.cv_runs.specs.PlainTurn.{decoded_turn, executed, operand, operated, turn_of}
use Rattle.cv_runs.specs.Services.{EBADF, EFAULT, EINVAL, ENOSYS, after_read, after_write, alloc_turn, answered, free_turn, read_length, read_turn, served, write_turn}
use Rattle.cv_runs.specs.State.{State, Outcome, Next, Ended, pc_of, with_x, x}
use Rattle.cv_shadow.specs.declared.TheConstants.{MOST_FRAMES}
use Rattle.cv_shadow.specs.Frames.{pop_end}

abbrev pub Follows : State → Outcome → Type 0
Follows s (Next t true) = Unit {0}
Follows s (Next t false) = pc_of t ≡ plus32 (pc_of s) 4
Follows s (Ended end) = Unit {0}

either : (s : State) (b : Bool) (x y : Outcome) → Follows s x → Follows s y → Follows s (if b then x else y)
either s true x y one other = one
either s false x y one other = other

gone : (image : Picture) (s at : State) (transfer : Bool) → pc_of at ≡ pc_of s → Follows s (gone_on image at transfer)
gone image s at true same = either s (is_point image (plus32 (pc_of at) 4)) _ _ tt tt
gone image s at false same = either s (is_point image (plus32 (pc_of at) 4)) _ _ (ap (λ pc. plus32 pc 4) same) tt

transfers : (image : Picture) (s at : State) → Follows s (gone_on image at true)
transfers image s at = either s (is_point image (plus32 (pc_of at) 4)) _ _ tt tt

jumps : (image : Picture) (s : State) (link : LinkKind) (rd target : ℕ) → Follows s (jumped image s link rd target)
jumps image s link rd target =
    either s (pops link && not (is_match (pop_end s.core.frames target))) _ _ tt
    (either s (not (is_point image target)) _ _ tt
    (either s (pushes_alone link && nat_le MOST_FRAMES (length s.core.frames)) _ _ tt tt))

branches : (image : Picture) (s : State) (i : Instruction) → Follows s (branched image s i)
branches image s i =
    either s (is_taken i.op (x s i.rs1) (x s i.rs2)) _ _ (either s (is_point image (plus32 (pc_of s) i.imm)) _ _ tt tt) (transfers image s s)

loads : (image : Picture) (s : State) (i : Instruction) (f : Option MemFault) → Follows s (loaded_unless image s i f)
loads image s i (Some f) = tt
loads image s i None = gone image s (with_x s i.rd (extended i.op (loaded s.memory (address_of s i) (size_of i.op)))) false refl

stores : (image : Picture) (s : State) (i : Instruction) (f : Option MemFault) → Follows s (stored_unless image s i f)
stores image s i (Some f) = tt
stores image s i None =
    either s (is_guarded s.heap (address_of s i) (size_of i.op)) _ _ tt
    (gone image s (record s { memory = stored s.memory (address_of s i) (size_of i.op) (x s i.rs2) }) false refl)

computes : (image : Picture) (s : State) (i : Instruction) (value : Option ℕ) → Follows s (operated image s i value)
computes image s i (Some value) = gone image s (with_x s i.rd value) false refl
computes image s i None = branches image s i

-- services

answers : (image : Picture) (s at : State) (answer : ℕ) → Follows s (answered image at answer)
answers image s at answer = transfers image s (with_x at 10 answer)

reads : (image : Picture) (s : State) → Follows s (read_turn image s)
reads image s =
    either s (not (x s 10 == 0)) _ _ (answers image s s EBADF)
    (either s (read_length s == 0) _ _ (answers image s s 0)
    (either s (not (each_address (is_writable (regions_of image)) (x s 11) (read_length s))) _ _ (answers image s s EFAULT)
    (either s (is_guarded s.heap (x s 11) (read_length s)) _ _ tt (answers image s (after_read s) (read_length s)))))

writes : (image : Picture) (s : State) → Follows s (write_turn image s)
writes image s =
    either s (not ((x s 10 == 1) || (x s 10 == 2))) _ _ (answers image s s EBADF)
    (either s (x s 12 == 0) _ _ (answers image s s 0)
    (either s (not (each_address (is_readable (regions_of image)) (x s 11) (x s 12))) _ _ (answers image s s EFAULT)
    (answers image s (after_write s) (x s 12))))

allocates : (image : Picture) (s : State) → Follows s (alloc_turn image s)
allocates image s =
    either s (has_room s.heap (x s 10)) _ _ (answers image s (record s { heap = with_block s.heap (x s 10) }) s.heap.next) (answers image s s 0)

frees : (image : Picture) (s : State) → Follows s (free_turn image s)
frees image s =
    either s (begins_block s.heap (x s 10)) _ _ (answers image s (record s { heap = without_block s.heap (x s 10) }) 0) (answers image s s EINVAL)

serves : (image : Picture) (s : State) → Follows s (served image s)
serves image s =
    either s (x s 17 == 93) _ _ tt
    (either s (x s 17 == 63) _ _ (reads image s)
    (either s (x s 17 == 64) _ _ (writes image s)
    (either s (x s 17 == 1000) _ _ (allocates image s)
    (either s (x s 17 == 1001) _ _ (frees image s) (answers image s s ENOSYS)))))

executes : (image : Picture) (s : State) (i : Instruction) (operation : Op) → Follows s (executed image s i operation)
executes image s i op.Lui = gone image s (with_x s i.rd i.imm) false refl
executes image s i op.Auipc = gone image s (with_x s i.rd (plus32 (pc_of s) i.imm)) false refl
executes image s i op.Jal = jumps image s (link_kind_of i) i.rd (plus32 (pc_of s) i.imm)
executes image s i op.Jalr = jumps image s (link_kind_of i) i.rd (indirect_target s i)
executes image s i op.Lb = loads image s i (load_fault (regions_of image) (address_of s i) (size_of i.op))
executes image s i op.Lh = loads image s i (load_fault (regions_of image) (address_of s i) (size_of i.op))
executes image s i op.Lw = loads image s i (load_fault (regions_of image) (address_of s i) (size_of i.op))
executes image s i op.Lbu = loads image s i (load_fault (regions_of image) (address_of s i) (size_of i.op))
executes image s i op.Lhu = loads image s i (load_fault (regions_of image) (address_of s i) (size_of i.op))
executes image s i op.Sb = stores image s i (store_fault (regions_of image) (address_of s i) (size_of i.op))
executes image s i op.Sh = stores image s i (store_fault (regions_of image) (address_of s i) (size_of i.op))
executes image s i op.Sw = stores image s i (store_fault (regions_of image) (address_of s i) (size_of i.op))
executes image s i op.Fence = gone image s s false refl
executes image s i op.Ecall = serves image s
executes image s i op.Ebreak = tt
executes image s i operation = computes image s i (computed operation (x s i.rs1) (operand (format_of operation) s i))

decoded : (image : Picture) (s : State) (word : ℕ) (i : Option Instruction) → Follows s (decoded_turn image s word i)
decoded image s word None = tt
decoded image s word (Some i) = executes image s i i.op

pub follows : (image : Picture) (s : State) → Follows s (turn_of image s)
unfolding turn_of
follows image s = decoded image s (word_at image (pc_of s)) (meaning_of (word_at image (pc_of s)))
