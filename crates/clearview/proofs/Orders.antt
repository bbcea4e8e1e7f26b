-- What is said of the commands whose runs are posted to a book.
use Rattle.std.proofs.Common.{◌≡◌, ℕ, ◌≢◌, false, if◌then◌else◌, Bool, true, List, ◌∷◌, [], length, map, codes, option_and_then, option_map, Option, Some, None, Result, Ok, Err, IfSome, inl, inr, refl, sym, ap, ◌∙◌, string_bytes}
use Rattle.std.specs.Prelude.{◌&&◌, not}
use Rattle.std.proofs.lemmas.Slice.Eq.{bytes_eq-Decides}
use Rattle.std.specs.Str.{bytes_eq}
use Rattle.std.specs.declared.string.String.{String}
use Rattle.std.specs.declared.alloc.Global.{Global}
use Rattle.cv_base.specs.declared.entries.Entry.{Entry}
use Rattle.cv_base.specs.PlanOf.{PlanOf}
use Rattle.cv_edge.specs.Edge.{Held}
use Rattle.cv_histories.specs.OtherTexts.{drill_text}
use Rattle.clearview.specs.declared.cause.Cause.{Cause}
use Rattle.clearview.specs.declared.words.Order.{Order}
use Rattle.clearview.specs.declared.words.Order.TheVariants as order
use Rattle.clearview.specs.Gives.{Gives, GivesText}
use Rattle.clearview.specs.Verdict.{book_text, drilled, files_for, plan_asked, plan_in, told_files, verdict_by}
use Rattle.clearview.specs.Views.{order_view}
use Rattle.clearview.specs.Words.{Asm, Audit, Check, Command, Drill, Infer, Kept, Listing, Plain, Replay, Run, audit_of, budget_of, command_of, drill_number, drill_of, drill_runs, few_digits, file_command, input_of, is_name, judges_report, keeps_book, keeps_rounds, pair_command, shows_turn}

-- ---- words

-- a drill posts its runs, so what posts none is none
no_drill : (number runs : List ℕ) → keeps_book (drill_of number runs) ≡ false → drill_of number runs ≡ None
no_drill number runs none =
    elim (drill_number number) as (λ (o : Option ℕ). keeps_book (option_and_then (λ n. option_map (λ count. Drill n count) (drill_runs runs)) o) ≡ false
    → option_and_then (λ n. option_map (λ count. Drill n count) (drill_runs runs)) o ≡ None) [
      | None ↦ λ e. refl
      | Some n ↦ elim (drill_runs runs) as (λ (o : Option ℕ). keeps_book (option_map (λ count. Drill n count) o) ≡ false → option_map (λ count. Drill n count) o ≡ None) [
        | None ↦ λ e. refl
        | Some count ↦ λ e. absurd (cc e)
      ]
    ] none

-- three words that begin otherwise than a drill post no runs
keeps_three : (drills audits names : Bool) (first second : List ℕ) → drills ≡ false → keeps_book (if drills then drill_of first second else if audits then (if names then Some (Audit first second) else None) else None) ≡ false
keeps_three true audits names first second other = cc
keeps_three false true true first second other = refl
keeps_three false true false first second other = refl
keeps_three false false names first second other = refl

pub keeps_pair : (name first second : List ℕ) → bytes_eq name (codes "drill") ≡ false → keeps_book (pair_command name first second) ≡ false
keeps_pair name first second other = keeps_three (bytes_eq name (codes "drill")) (bytes_eq name (codes "audit")) (is_name first && is_name second) first second other

-- a drill judges no report
drill_judges : (number runs : List ℕ) → judges_report (drill_of number runs) ≡ false
drill_judges number runs =
    elim (drill_number number) as (λ (o : Option ℕ). judges_report (option_and_then (λ n. option_map (λ count. Drill n count) (drill_runs runs)) o) ≡ false) [
      | None ↦ refl
      | Some n ↦ elim (drill_runs runs) as (λ (o : Option ℕ). judges_report (option_map (λ count. Drill n count) o) ≡ false) [
        | None ↦ refl
        | Some count ↦ refl
      ]
    ]

-- a word is no two words
one_word : (name : List ℕ) → bytes_eq name (codes "audit") ≡ true → bytes_eq name (codes "drill") ≡ false
one_word name is = ap (λ (word : List ℕ). bytes_eq word (codes "drill")) ((bytes_eq-Decides name (codes "audit")).0 is)

asked_three : (drills audits names : Bool) (first second : List ℕ) → (audits ≡ true → drills ≡ false) → (audits && names) ≡ true
    → (if drills then drill_of first second else if audits then (if names then Some (Audit first second) else None) else None) ≡ Some (Audit first second)
asked_three true true names first second apart is = let never = apart refl in absurd cc
asked_three true false names first second apart is = cc
asked_three false true true first second apart is = refl
asked_three false true false first second apart is = cc
asked_three false false names first second apart is = cc

pub audit_asked : (name first second : List ℕ) → (bytes_eq name (codes "audit") && (is_name first && is_name second)) ≡ true → pair_command name first second ≡ Some (Audit first second)
audit_asked name first second is = asked_three (bytes_eq name (codes "drill")) (bytes_eq name (codes "audit")) (is_name first && is_name second) first second (one_word name) is

judges_three : (drills audits names : Bool) (first second : List ℕ) → (audits && names) ≡ false
    → judges_report (if drills then drill_of first second else if audits then (if names then Some (Audit first second) else None) else None) ≡ false
judges_three true audits names first second is = drill_judges first second
judges_three false true true first second is = cc
judges_three false true false first second is = refl
judges_three false false names first second is = refl

pub audit_unasked : (name first second : List ℕ) → (bytes_eq name (codes "audit") && (is_name first && is_name second)) ≡ false → judges_report (pair_command name first second) ≡ false
audit_unasked name first second is = judges_three (bytes_eq name (codes "drill")) (bytes_eq name (codes "audit")) (is_name first && is_name second) first second is

-- no command of one file judges a report
judges_file : (named check infer run kept asm list : Bool) (file : List ℕ)
    → judges_report (if named then None else if check then Some (Check file) else if infer then Some (Infer file) else if run then Some (Run file) else if kept then Some (Kept file) else if asm then Some (Asm file) else if list then Some (Listing file) else None) ≡ false
judges_file true check infer run kept asm list file = refl
judges_file false true infer run kept asm list file = refl
judges_file false false true run kept asm list file = refl
judges_file false false false true kept asm list file = refl
judges_file false false false false true asm list file = refl
judges_file false false false false false true list file = refl
judges_file false false false false false false true file = refl
judges_file false false false false false false false file = refl

-- nor does a plain run
judges_plain : (plain named : Bool) (image input : List ℕ) (budget : Option ℕ) (bytes : Option (List ℕ))
    → judges_report (if plain then (if named then option_and_then (λ n. option_map (λ (b : List ℕ). Plain image n b) bytes) budget else None) else None) ≡ false
judges_plain false named image input budget bytes = refl
judges_plain true false image input budget bytes = refl
judges_plain true true image input None bytes = refl
judges_plain true true image input (Some n) None = refl
judges_plain true true image input (Some n) (Some b) = refl

-- nor does what shows no turn, of five words
abbrev five : Bool → Bool → List ℕ → List ℕ → Option ℕ → Option ℕ → Option Command
five replay named job report run turn =
    if replay then (if named then option_and_then (λ r. option_map (λ t. Replay job report r t) turn) run else None) else None

judges_five : (replay named : Bool) (job report : List ℕ) (run turn : Option ℕ) → shows_turn (five replay named job report run turn) ≡ false → judges_report (five replay named job report run turn) ≡ false
judges_five false named job report run turn none = refl
judges_five true false job report run turn none = refl
judges_five true true job report None turn none = refl
judges_five true true job report (Some r) None none = refl
judges_five true true job report (Some r) (Some t) none = absurd (cc none)

posts_five : (replay named : Bool) (job report : List ℕ) (run turn : Option ℕ) → keeps_book (five replay named job report run turn) ≡ false
posts_five false named job report run turn = refl
posts_five true false job report run turn = refl
posts_five true true job report None turn = refl
posts_five true true job report (Some r) None = refl
posts_five true true job report (Some r) (Some t) = refl

no_five : (replay named : Bool) (job report : List ℕ) (run turn : Option ℕ) → judges_report (five replay named job report run turn) ≡ false → None ≡ five replay named job report run turn
no_five false named job report run turn none = refl
no_five true false job report run turn none = refl
no_five true true job report None turn none = refl
no_five true true job report (Some r) None none = refl
no_five true true job report (Some r) (Some t) none = absurd (cc none)

-- words that are not three, and show no turn, judge no report
pub not_three : (words : List (String Global)) → length words ≢ 3 → shows_turn (command_of (map string_bytes words)) ≡ false → judges_report (command_of (map string_bytes words)) ≡ false
not_three [] three turn = refl
not_three (a ∷ []) three turn = refl
not_three (a ∷ b ∷ []) three turn =
    let name = string_bytes a in
    judges_file (not (is_name (string_bytes b))) (bytes_eq name (codes "check")) (bytes_eq name (codes "infer")) (bytes_eq name (codes "run")) (bytes_eq name (codes "kept")) (bytes_eq name (codes "asm")) (bytes_eq name (codes "list")) (string_bytes b)
not_three (a ∷ b ∷ c ∷ []) three turn = absurd (three refl)
not_three (a ∷ b ∷ c ∷ d ∷ []) three turn =
    judges_plain (bytes_eq (string_bytes a) (codes "plain")) (is_name (string_bytes b)) (string_bytes b) (string_bytes d) (budget_of (string_bytes c)) (input_of (string_bytes d))
not_three (a ∷ b ∷ c ∷ d ∷ e ∷ []) three turn =
    judges_five (bytes_eq (string_bytes a) (codes "replay")) (is_name (string_bytes b) && is_name (string_bytes c)) (string_bytes b) (string_bytes c) (few_digits 4 (string_bytes d)) (few_digits 8 (string_bytes e)) turn
not_three (a ∷ b ∷ c ∷ d ∷ e ∷ f ∷ rest) three turn = refl

-- words that are neither two nor three post no runs
posts_plain : (plain named : Bool) (image input : List ℕ) (budget : Option ℕ) (bytes : Option (List ℕ))
    → keeps_book (if plain then (if named then option_and_then (λ n. option_map (λ (b : List ℕ). Plain image n b) bytes) budget else None) else None) ≡ false
posts_plain false named image input budget bytes = refl
posts_plain true false image input budget bytes = refl
posts_plain true true image input None bytes = refl
posts_plain true true image input (Some n) None = refl
posts_plain true true image input (Some n) (Some b) = refl

pub posts_none : (words : List (String Global)) → length words ≢ 2 → length words ≢ 3 → keeps_book (command_of (map string_bytes words)) ≡ false
posts_none [] two three = refl
posts_none (a ∷ []) two three = refl
posts_none (a ∷ b ∷ []) two three = absurd (two refl)
posts_none (a ∷ b ∷ c ∷ []) two three = absurd (three refl)
posts_none (a ∷ b ∷ c ∷ d ∷ []) two three =
    posts_plain (bytes_eq (string_bytes a) (codes "plain")) (is_name (string_bytes b)) (string_bytes b) (string_bytes d) (budget_of (string_bytes c)) (input_of (string_bytes d))
posts_none (a ∷ b ∷ c ∷ d ∷ e ∷ []) two three =
    posts_five (bytes_eq (string_bytes a) (codes "replay")) (is_name (string_bytes b) && is_name (string_bytes c)) (string_bytes b) (string_bytes c) (few_digits 4 (string_bytes d)) (few_digits 8 (string_bytes e))
posts_none (a ∷ b ∷ c ∷ d ∷ e ∷ f ∷ rest) two three = refl

-- nor is an audit what judges no report
no_audit : (names : Bool) (job report : List ℕ) → judges_report (if names then Some (Audit job report) else None) ≡ false → None ≡ (if names then Some (Audit job report) else None)
no_audit true job report none = absurd (cc none)
no_audit false job report none = refl

no_three : (drills audits : Bool) (first second : List ℕ) → keeps_book (if drills then drill_of first second else if audits then audit_of first second else None) ≡ false
    → judges_report (if drills then drill_of first second else if audits then audit_of first second else None) ≡ false
    → None ≡ (if drills then drill_of first second else if audits then audit_of first second else None)
no_three true audits first second book report = sym (no_drill first second book)
no_three false true first second book report = no_audit (is_name first && is_name second) first second report
no_three false false first second book report = refl

-- words that are neither two nor four, post no runs and judge no report, are no command
pub no_others : (words : List (String Global)) → length words ≢ 2 → length words ≢ 4
    → keeps_book (command_of (map string_bytes words)) ≡ false → judges_report (command_of (map string_bytes words)) ≡ false → None ≡ command_of (map string_bytes words)
no_others [] two four book report = refl
no_others (a ∷ []) two four book report = refl
no_others (a ∷ b ∷ []) two four book report = absurd (two refl)
no_others (a ∷ b ∷ c ∷ []) two four book report = no_three (bytes_eq (string_bytes a) (codes "drill")) (bytes_eq (string_bytes a) (codes "audit")) (string_bytes b) (string_bytes c) book report
no_others (a ∷ b ∷ c ∷ d ∷ []) two four book report = absurd (four refl)
no_others (a ∷ b ∷ c ∷ d ∷ e ∷ []) two four book report =
    no_five (bytes_eq (string_bytes a) (codes "replay")) (is_name (string_bytes b) && is_name (string_bytes c)) (string_bytes b) (string_bytes c) (few_digits 4 (string_bytes d)) (few_digits 8 (string_bytes e)) report
no_others (a ∷ b ∷ c ∷ d ∷ e ∷ f ∷ rest) two four book report = refl

-- ---- a turn of a run

-- what judges no report shows no turn
judges_shows : (asked : Option Command) → judges_report asked ≡ false → shows_turn asked ≡ false
judges_shows None none = refl
judges_shows (Some (Plain image budget input)) none = refl
judges_shows (Some (Check job)) none = refl
judges_shows (Some (Infer job)) none = refl
judges_shows (Some (Run job)) none = refl
judges_shows (Some (Kept job)) none = refl
judges_shows (Some (Drill number runs)) none = refl
judges_shows (Some (Asm source)) none = refl
judges_shows (Some (Listing image)) none = refl
judges_shows (Some (Audit job report)) none = refl
judges_shows (Some (Replay job report run turn)) none = absurd (cc none)

shows_three : (drills audits names : Bool) (first second : List ℕ) → shows_turn (if drills then drill_of first second else if audits then (if names then Some (Audit first second) else None) else None) ≡ false
shows_three true audits names first second = judges_shows (drill_of first second) (drill_judges first second)
shows_three false true true first second = refl
shows_three false true false first second = refl
shows_three false false names first second = refl

-- words that are not five show none
pub turn_none : (words : List (String Global)) → length words ≢ 5 → shows_turn (command_of (map string_bytes words)) ≡ false
turn_none [] five = refl
turn_none (a ∷ []) five = refl
turn_none (a ∷ b ∷ []) five =
    let name = string_bytes a in
    judges_shows (file_command name (string_bytes b))
    (judges_file (not (is_name (string_bytes b))) (bytes_eq name (codes "check")) (bytes_eq name (codes "infer")) (bytes_eq name (codes "run")) (bytes_eq name (codes "kept")) (bytes_eq name (codes "asm")) (bytes_eq name (codes "list")) (string_bytes b))
turn_none (a ∷ b ∷ c ∷ []) five =
    shows_three (bytes_eq (string_bytes a) (codes "drill")) (bytes_eq (string_bytes a) (codes "audit")) (is_name (string_bytes b) && is_name (string_bytes c)) (string_bytes b) (string_bytes c)
turn_none (a ∷ b ∷ c ∷ d ∷ []) five =
    judges_shows (command_of (string_bytes a ∷ string_bytes b ∷ string_bytes c ∷ string_bytes d ∷ []))
    (judges_plain (bytes_eq (string_bytes a) (codes "plain")) (is_name (string_bytes b)) (string_bytes b) (string_bytes d) (budget_of (string_bytes c)) (input_of (string_bytes d)))
turn_none (a ∷ b ∷ c ∷ d ∷ e ∷ []) five = absurd (five refl)
turn_none (a ∷ b ∷ c ∷ d ∷ e ∷ f ∷ rest) five = refl

-- ---- kept rounds

-- words that are not two keep no rounds
drill_rounds : (number runs : List ℕ) → keeps_rounds (drill_of number runs) ≡ false
drill_rounds number runs =
    elim (drill_number number) as (λ (o : Option ℕ). keeps_rounds (option_and_then (λ n. option_map (λ count. Drill n count) (drill_runs runs)) o) ≡ false) [
      | None ↦ refl
      | Some n ↦ elim (drill_runs runs) as (λ (o : Option ℕ). keeps_rounds (option_map (λ count. Drill n count) o) ≡ false) [
        | None ↦ refl
        | Some count ↦ refl
      ]
    ]

rounds_three : (drills audits names : Bool) (first second : List ℕ) → keeps_rounds (if drills then drill_of first second else if audits then (if names then Some (Audit first second) else None) else None) ≡ false
rounds_three true audits names first second = drill_rounds first second
rounds_three false true true first second = refl
rounds_three false true false first second = refl
rounds_three false false names first second = refl

rounds_plain : (plain named : Bool) (image input : List ℕ) (budget : Option ℕ) (bytes : Option (List ℕ))
    → keeps_rounds (if plain then (if named then option_and_then (λ n. option_map (λ (b : List ℕ). Plain image n b) bytes) budget else None) else None) ≡ false
rounds_plain false named image input budget bytes = refl
rounds_plain true false image input budget bytes = refl
rounds_plain true true image input None bytes = refl
rounds_plain true true image input (Some n) None = refl
rounds_plain true true image input (Some n) (Some b) = refl

rounds_five : (replay named : Bool) (job report : List ℕ) (run turn : Option ℕ) → keeps_rounds (five replay named job report run turn) ≡ false
rounds_five false named job report run turn = refl
rounds_five true false job report run turn = refl
rounds_five true true job report None turn = refl
rounds_five true true job report (Some r) None = refl
rounds_five true true job report (Some r) (Some t) = refl

pub rounds_none : (words : List (String Global)) → length words ≢ 2 → keeps_rounds (command_of (map string_bytes words)) ≡ false
rounds_none [] two = refl
rounds_none (a ∷ []) two = refl
rounds_none (a ∷ b ∷ []) two = absurd (two refl)
rounds_none (a ∷ b ∷ c ∷ []) two =
    rounds_three (bytes_eq (string_bytes a) (codes "drill")) (bytes_eq (string_bytes a) (codes "audit")) (is_name (string_bytes b) && is_name (string_bytes c)) (string_bytes b) (string_bytes c)
rounds_none (a ∷ b ∷ c ∷ d ∷ []) two =
    rounds_plain (bytes_eq (string_bytes a) (codes "plain")) (is_name (string_bytes b)) (string_bytes b) (string_bytes d) (budget_of (string_bytes c)) (input_of (string_bytes d))
rounds_none (a ∷ b ∷ c ∷ d ∷ e ∷ []) two =
    rounds_five (bytes_eq (string_bytes a) (codes "replay")) (is_name (string_bytes b) && is_name (string_bytes c)) (string_bytes b) (string_bytes c) (few_digits 4 (string_bytes d)) (few_digits 8 (string_bytes e))
rounds_none (a ∷ b ∷ c ∷ d ∷ e ∷ f ∷ rest) two = refl

-- ---- texts

pub order_ran : (told : Option Held) (o : Order) (plan : PlanOf) (past : List Entry) (s : String Global)
    → IfSome (files_for (Some (order_view o)) told) (λ file. Gives (plan_asked (Some (order_view o)) file) (Ok plan))
    → string_bytes s ≡ book_text (Some (order_view o)) plan past
    → IfSome (files_for (Some (order_view o)) told) (λ file. GivesText (verdict_by (Some (order_view o)) file past None) (Ok s))
order_ran None (order.Run job) plan past s gives text = tt
order_ran (Some held) (order.Run job) plan past s gives text = rw (gives) (ap (λ (l : List ℕ). Ok l) (sym text))
order_ran told (order.Drill number runs) plan past s gives text =
    let same : drilled number runs ≡ plan = cc in ap (λ (l : List ℕ). Ok l) (ap (λ p. drill_text p past) same ∙ sym text)

pub order_against : (told : Option Held) (o : Order) (c : Cause)
    → IfSome (files_for (Some (order_view o)) told) (λ file. Gives (plan_asked (Some (order_view o)) file) (Err c))
    → IfSome (files_for (Some (order_view o)) told) (λ file. GivesText (verdict_by (Some (order_view o)) file [] None) (Err c))
order_against None (order.Run job) c gives = tt
order_against (Some held) (order.Run job) c (inl e) = inl (rw e refl)
order_against (Some held) (order.Run job) c (inr free) = inr free
order_against told (order.Drill number runs) c (inl e) = absurd (cc e)
order_against told (order.Drill number runs) c (inr free) = inr free

-- ---- plans

-- the plan of a job that a store tells
pub plan_told : (told : Option Held) (job : List ℕ) (r : Result PlanOf Cause)
    → IfSome told (λ held. Gives (plan_in held.file job) r)
    → IfSome (told_files told) (λ file. Gives (plan_in file job) r)
plan_told None job r gives = tt
plan_told (Some held) job r gives = gives
