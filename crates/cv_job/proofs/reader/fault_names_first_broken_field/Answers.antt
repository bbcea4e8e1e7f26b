use Rattle.std.specs.Prelude.{codes}
use Rattle.serde_json.specs.Find.{get}
use Rattle.cv_job.specs.Fields.{number_in, text_in}
use Rattle.cv_job.specs.Rounds.{rounds_of}
use Rattle.cv_job.proofs.FirstFault.{first_fault}
use Rattle.cv_job.proofs.reader.fault_names_first_broken_field.Goals as goal

pub returns : goal.returns
returns c =
    λ d f.
    first_fault (text_in 1 4096 (get (codes "image") d)) (number_in 1 16 (get (codes "workers") d))
    (number_in 2 8 (get (codes "checks") d)) (number_in 1 10000000 (get (codes "budget") d)) (rounds_of (get (codes "rounds") d)) f
