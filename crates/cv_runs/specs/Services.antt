-- The services of ECALL: x17 names the service, x10 to x12 are its arguments, x10 takes the answer
-- (docs/MACHINE.md, "Services"). RISC-V Unprivileged ISA, 2.8 "Environment Call and Breakpoints".
use Rattle.std.specs.Prelude.{ℕ, true, not, ◌||◌, ◌==◌, min, if◌then◌else◌, ◌++◌, length, take, drop}
use Rattle.cv_base.specs.declared.ends.End.TheVariants.{Exit}
use Rattle.cv_base.specs.declared.ends.FailureKind.TheVariants.{HeapGuard}
use Rattle.cv_base.specs.Picture.{Picture}
use Rattle.cv_base.specs.Regions.{regions_of, is_readable, is_writable, each_address}
use Rattle.cv_heap.specs.Heap.{has_room, with_block, begins_block, without_block}
use Rattle.cv_mem.specs.Memory.{bytes_at, with_bytes}
use Rattle.cv_runs.specs.declared.TheConstants.{MOST_OUTPUT}
use Rattle.cv_runs.specs.Effects.{gone_on, is_guarded}
use Rattle.cv_runs.specs.State.{State, Outcome, Ended, x, with_x, failed}

-- errors, as negative numbers modulo 2^32
abbrev pub EBADF : ℕ
EBADF = 0xfffffff7

abbrev pub EFAULT : ℕ
EFAULT = 0xfffffff2

abbrev pub EINVAL : ℕ
EINVAL = 0xffffffea

abbrev pub ENOSYS : ℕ
ENOSYS = 0xffffffda

-- the service's answer is in x10, and the run goes on at the next word
abbrev pub answered : Picture → State → ℕ → Outcome
answered image s answer = gone_on image (with_x s 10 answer) true

-- the bytes that a read gives: what is asked for, or what is left
abbrev pub read_length : State → ℕ
read_length s = min (x s 12) (length s.input)

abbrev pub after_read : State → State
after_read s =
    record s { memory = with_bytes s.memory (x s 11) (take (read_length s) s.input); input = drop (read_length s) s.input }

abbrev pub read_turn : Picture → State → Outcome
read_turn image s =
    if not (x s 10 == 0) then answered image s EBADF
    else if read_length s == 0 then answered image s 0
    else if not (each_address (is_writable (regions_of image)) (x s 11) (read_length s)) then answered image s EFAULT
    else if is_guarded s.heap (x s 11) (read_length s) then failed s HeapGuard (x s 11)
    else answered image (after_read s) (read_length s)

-- output past its first 16,384 bytes is dropped
abbrev pub after_write : State → State
after_write s = record s { output = take MOST_OUTPUT (s.output ++ bytes_at s.memory (x s 11) (x s 12)) }

abbrev pub write_turn : Picture → State → Outcome
write_turn image s =
    if not ((x s 10 == 1) || (x s 10 == 2)) then answered image s EBADF
    else if x s 12 == 0 then answered image s 0
    else if not (each_address (is_readable (regions_of image)) (x s 11) (x s 12)) then answered image s EFAULT
    else answered image (after_write s) (x s 12)

abbrev pub alloc_turn : Picture → State → Outcome
alloc_turn image s =
    if has_room s.heap (x s 10) then answered image (record s { heap = with_block s.heap (x s 10) }) s.heap.next
    else answered image s 0

abbrev pub free_turn : Picture → State → Outcome
free_turn image s =
    if begins_block s.heap (x s 10) then answered image (record s { heap = without_block s.heap (x s 10) }) 0
    else answered image s EINVAL

abbrev pub served : Picture → State → Outcome
served image s =
    if x s 17 == 93 then Ended (Exit (x s 10))
    else if x s 17 == 63 then read_turn image s
    else if x s 17 == 64 then write_turn image s
    else if x s 17 == 1000 then alloc_turn image s
    else if x s 17 == 1001 then free_turn image s
    else answered image s ENOSYS
