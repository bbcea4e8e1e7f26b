-- Which lists of words are commands (docs/FORMATS.md, "Words").
use Rattle.std.specs.Prelude.{ℕ, Bool, true, false, not, ◌&&◌, ◌==◌, ◌+◌, ◌-◌, ◌*◌, ◌^◌, ◌≤◌, nat_lt, if◌then◌else◌, List, [], ◌∷◌, length, codes, Option, Some, None, option_and_then, option_map}
use Rattle.std.specs.List.{list_all}
use Rattle.std.specs.Result.{result_ok}
use Rattle.std.specs.Str.{bytes_eq}
use Rattle.hex.specs.Hex.{decode_of}
use Rattle.cv_job.specs.Fields.{within}

pub data Command : Type 0 where
  Plain : List ℕ → ℕ → List ℕ → Command  -- image's name, budget, input
  Check : List ℕ → Command  -- job's name
  Infer : List ℕ → Command  -- job's name
  Run : List ℕ → Command  -- job's name
  Kept : List ℕ → Command  -- job's name
  Drill : ℕ → ℕ → Command  -- number, runs
  Asm : List ℕ → Command  -- source's name
  Listing : List ℕ → Command  -- image's name
  Audit : List ℕ → List ℕ → Command  -- job's name, report's name
  Replay : List ℕ → List ℕ → ℕ → ℕ → Command  -- job's name, report's name, run, turn

-- a file's name: not empty, and does not begin with `-`
abbrev pub is_name : List ℕ → Bool
is_name [] = false
is_name (c ∷ cs) = not (c == 45)

-- the number that decimal digits write
abbrev pub is_digit : ℕ → Bool
is_digit c = within 48 57 c

abbrev pub number_from : ℕ → List ℕ → ℕ
number_from n [] = n
number_from n (c ∷ cs) = number_from (10 * n + (c - 48)) cs

-- a budget: 1 to 8 digits, 1 to 10,000,000
abbrev pub budget_of : List ℕ → Option ℕ
budget_of word =
    if within 1 8 (length word) && list_all is_digit word && within 1 10000000 (number_from 0 word)
    then Some (number_from 0 word) else None

-- an input: `none`, or 2 to 131,072 hexadecimal digits, two a byte
abbrev pub input_of : List ℕ → Option (List ℕ)
input_of word =
    if bytes_eq word (codes "none") then Some []
    else if within 2 131072 (length word) then result_ok (decode_of word) else None

abbrev pub plain_of : List ℕ → List ℕ → List ℕ → Option Command
plain_of image budget input =
    if is_name image
    then option_and_then (λ n. option_map (λ bytes. Plain image n bytes) (input_of input)) (budget_of budget)
    else None

-- the commands that have one word more, a file's name
abbrev pub file_command : List ℕ → List ℕ → Option Command
file_command name file =
    if not (is_name file) then None
    else if bytes_eq name (codes "check") then Some (Check file)
    else if bytes_eq name (codes "infer") then Some (Infer file)
    else if bytes_eq name (codes "run") then Some (Run file)
    else if bytes_eq name (codes "kept") then Some (Kept file)
    else if bytes_eq name (codes "asm") then Some (Asm file)
    else if bytes_eq name (codes "list") then Some (Listing file)
    else None

-- the number of a drill: 1 to 20 digits, below 2^64
abbrev pub drill_number : List ℕ → Option ℕ
drill_number word =
    if within 1 20 (length word) && list_all is_digit word && nat_lt (number_from 0 word) (2 ^ 64)
    then Some (number_from 0 word) else None

-- its live runs: 1 to 4 digits, 1 to 1,022
abbrev pub drill_runs : List ℕ → Option ℕ
drill_runs word =
    if within 1 4 (length word) && list_all is_digit word && within 1 1022 (number_from 0 word)
    then Some (number_from 0 word) else None

abbrev pub drill_of : List ℕ → List ℕ → Option Command
drill_of number runs = option_and_then (λ n. option_map (λ count. Drill n count) (drill_runs runs)) (drill_number number)

abbrev pub audit_of : List ℕ → List ℕ → Option Command
audit_of job report = if is_name job && is_name report then Some (Audit job report) else None

-- the commands that have two words more
abbrev pub pair_command : List ℕ → List ℕ → List ℕ → Option Command
pair_command name first second =
    if bytes_eq name (codes "drill") then drill_of first second
    else if bytes_eq name (codes "audit") then audit_of first second
    else None

-- the number that decimal digits write, at most so many
abbrev pub few_digits : ℕ → List ℕ → Option ℕ
few_digits most word = if within 1 most (length word) && list_all is_digit word then Some (number_from 0 word) else None

-- a run has 1 to 4 digits, and a turn 1 to 8
abbrev pub replay_of : List ℕ → List ℕ → List ℕ → List ℕ → Option Command
replay_of job report run turn =
    if is_name job && is_name report
    then option_and_then (λ r. option_map (λ t. Replay job report r t) (few_digits 8 turn)) (few_digits 4 run)
    else None

abbrev pub command_of : List (List ℕ) → Option Command
command_of (name ∷ file ∷ []) = file_command name file
command_of (name ∷ first ∷ second ∷ []) = pair_command name first second
command_of (name ∷ image ∷ budget ∷ input ∷ []) = if bytes_eq name (codes "plain") then plain_of image budget input else None
command_of (name ∷ job ∷ report ∷ run ∷ turn ∷ []) = if bytes_eq name (codes "replay") then replay_of job report run turn else None
command_of _ = None

-- how many files a command names: those of its words, and after a job the job's image
abbrev pub files_named : Option Command → ℕ
files_named None = 0
files_named (Some (Plain image budget input)) = 1
files_named (Some (Check job)) = 2
files_named (Some (Infer job)) = 2
files_named (Some (Run job)) = 2
files_named (Some (Kept job)) = 2
files_named (Some (Drill number runs)) = 0
files_named (Some (Asm source)) = 1
files_named (Some (Listing image)) = 1
files_named (Some (Audit job report)) = 3
files_named (Some (Replay job report run turn)) = 3

-- what a command reads: a job, an image, a source, a report, kept rounds
pub record Reads : Type 0 where
  pub job : Bool
  pub image : Bool
  pub source : Bool
  pub report : Bool
  pub rounds : Bool

abbrev pub nothing : Reads
nothing = record { job = false; image = false; source = false; report = false; rounds = false }

abbrev pub an_image : Reads
an_image = record { job = false; image = true; source = false; report = false; rounds = false }

abbrev pub a_plan : Reads
a_plan = record { job = true; image = true; source = false; report = false; rounds = false }

abbrev pub a_source : Reads
a_source = record { job = false; image = false; source = true; report = false; rounds = false }

abbrev pub a_report : Reads
a_report = record { job = true; image = true; source = false; report = true; rounds = false }

abbrev pub kept_rounds : Reads
kept_rounds = record { job = true; image = true; source = false; report = false; rounds = true }

abbrev pub reads_of : Option Command → Reads
reads_of None = nothing
reads_of (Some (Plain image budget input)) = an_image
reads_of (Some (Check job)) = a_plan
reads_of (Some (Infer job)) = a_plan
reads_of (Some (Run job)) = a_plan
reads_of (Some (Kept job)) = kept_rounds
reads_of (Some (Drill number runs)) = nothing
reads_of (Some (Asm source)) = a_source
reads_of (Some (Listing image)) = an_image
reads_of (Some (Audit job report)) = a_report
reads_of (Some (Replay job report run turn)) = a_report

-- an input has at most 65,536 bytes, and a drill 1 to 1,022 live runs
abbrev pub IsShort : Command → Type 0
IsShort (Plain image budget input) = length input ≤ 65536
IsShort (Check job) = Unit {0}
IsShort (Infer job) = Unit {0}
IsShort (Run job) = Unit {0}
IsShort (Kept job) = Unit {0}
IsShort (Drill number runs) = (1 ≤ runs) × (runs ≤ 1022)
IsShort (Asm source) = Unit {0}
IsShort (Listing image) = Unit {0}
IsShort (Audit job report) = Unit {0}
IsShort (Replay job report run turn) = Unit {0}

-- whether the runs of a command are posted to a book
abbrev pub keeps_book : Option Command → Bool
keeps_book (Some (Run job)) = true
keeps_book (Some (Kept job)) = true
keeps_book (Some (Drill number runs)) = true
keeps_book _ = false

-- whether a command judges a report
abbrev pub judges_report : Option Command → Bool
judges_report (Some (Audit job report)) = true
judges_report (Some (Replay job report run turn)) = true
judges_report _ = false

-- whether a command shows a turn of a run that it is told of by a report
abbrev pub shows_turn : Option Command → Bool
shows_turn (Some (Replay job report run turn)) = true
shows_turn _ = false

-- whether a command keeps the rounds of its runs on a disk
abbrev pub keeps_rounds : Option Command → Bool
keeps_rounds (Some (Kept job)) = true
keeps_rounds _ = false
