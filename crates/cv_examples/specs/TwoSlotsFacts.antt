-- What the two-slot program's histories come to.
use Rattle.std.specs.Prelude.{◌≡◌, pos, negsuc, [], ◌∷◌, Some, None}
use Rattle.cv_base.specs.declared.ends.CrashCause.TheVariants.{Unreadable}
use Rattle.cv_base.specs.declared.ends.End.TheVariants.{Exit, Failure}
use Rattle.cv_base.specs.declared.ends.FailureKind.TheVariants.{Crash}
use Rattle.cv_histories.specs.Serial.{serial_ledger}
use Rattle.cv_examples.specs.TwoSlots.{newest_outlines, six, standing_of, two_slots_plan, late_plan, with_late}

-- the fourth live run fails elsewhere under repair 0, which is withdrawn; the fifth exits under repair 1
abbrev pub WithdrawnAndOpened : Type 0
WithdrawnAndOpened =
    newest_outlines 2 (serial_ledger two_slots_plan)
    ≡ record { worker = 0; adopted = record { version = 3; entries = 4 } ∷ []; end = Exit 9; turns = 12; sites = []; fired = record { case = 0; index = 1; count = 1 } ∷ [] }
    ∷ record {
      worker = 0;
      adopted = record { version = 2; entries = 3 } ∷ [];
      end = Failure (record { kind = Crash Unreadable; pc = 0x10028 }) 0;
      turns = 9;
      sites = 0x10028 ∷ 0x1001c ∷ [];
      fired = record { case = 0; index = 0; count = 1 } ∷ [];
    } ∷ []

-- repair 0 has score -1 and repair 1 score 2; the second case has 46 candidates
abbrev pub StandsAfterSeven : Type 0
StandsAfterSeven =
    standing_of two_slots_plan (serial_ledger two_slots_plan) ≡ record {
      versions = 0 ∷ 46 ∷ 1 ∷ 47 ∷ [];
      candidates = 46 ∷ 46 ∷ [];
      changes = record { entry = 4; case = 0; withdrawn = None; installed = 0 } ∷ record { entry = 5; case = 0; withdrawn = Some 0; installed = 1 } ∷ [];
      scores = Some (negsuc 0) ∷ Some (pos 2) ∷ [];
      installed = Some (Some 1);
    }

-- the first late win lifts repair 0 to 0, the second to 1, the score of repair 1, which stays
-- installed; no version follows
abbrev pub LateWins : Type 0
LateWins =
    standing_of late_plan (with_late 2 7 (with_late 1 6 six)) ≡ record {
      versions = 0 ∷ 46 ∷ 1 ∷ 47 ∷ [];
      candidates = 46 ∷ 46 ∷ [];
      changes = record { entry = 4; case = 0; withdrawn = None; installed = 0 } ∷ record { entry = 5; case = 0; withdrawn = Some 0; installed = 1 } ∷ [];
      scores = Some (pos 1) ∷ Some (pos 1) ∷ [];
      installed = Some (Some 1);
    }

abbrev pub FirstLateWin : Type 0
FirstLateWin = (standing_of late_plan (with_late 1 6 six)).scores ≡ Some (pos 0) ∷ Some (pos 1) ∷ []

abbrev pub LateEntries : Type 0
LateEntries =
    newest_outlines 2 (with_late 2 7 (with_late 1 6 six))
    ≡ record { worker = 2; adopted = record { version = 2; entries = 4 } ∷ []; end = Exit 1299; turns = 12; sites = []; fired = record { case = 0; index = 0; count = 1 } ∷ [] }
    ∷ record { worker = 1; adopted = record { version = 2; entries = 4 } ∷ []; end = Exit 1299; turns = 12; sites = []; fired = record { case = 0; index = 0; count = 1 } ∷ [] } ∷ []
