-- Why a load is refused.
use Rattle.std.proofs.Common.{◌≡◌, ℕ, Option, Some, None, Result, Ok, Err, refl}
use Rattle.std.specs.Result.{result_err}
use Rattle.cv_mem.specs.declared.space.MemFault.{MemFault}
use Rattle.cv_mem.specs.Memory.{memory_of, loaded, load_fault}
use Rattle.cv_mem.specs.SpaceOf.{SpaceOf, load_of}

kept : (fault : Option MemFault) (value : ℕ) → result_err (elim fault as (λ _. Result ℕ MemFault) [ None ↦ Ok value | Some f ↦ Err f ]) ≡ fault
kept None value = refl
kept (Some f) value = refl

pub err_of_load : (space : SpaceOf) (a size : ℕ) → result_err (load_of space a size) ≡ load_fault space.regions a size
err_of_load space a size = kept (load_fault space.regions a size) (loaded (memory_of space.bytes) a size)
