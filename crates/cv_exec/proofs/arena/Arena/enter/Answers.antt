use Rattle.std.proofs.Common.{[], Option, sym, ap, subst}
use Rattle.std.specs.Prelude.{IsSome}
use Rattle.std.specs.List.{AllByRecursion}
use Rattle.std.proofs.lemmas.List.{append-nil}
use Rattle.std.proofs.lemmas.Result.{on_ok_weaker}
use Rattle.cv_exec.specs.ArenaOf.{Going, adopted_in}
use Rattle.cv_exec.specs.Keeping.{last_table}
use Rattle.cv_exec.specs.LiveRun.{HaveTables, Span, rows_of}
use Rattle.cv_exec.proofs.Adopting.{may_again, table_again, there}
use Rattle.cv_exec.proofs.Answered.{above_all, answered_after, rises_after, tables_after, written_after}
use Rattle.cv_histories.specs.Legal.{NeverFalls}
use Rattle.cv_exec.proofs.arena.Arena.enter.Goals as goal

-- ---- another version: the arena is as it was

pub adopt-requires-clause-may : goal.adopt-requires-clause-may
adopt-requires-clause-may g c =
    let same = ap (λ a. a.going) (c.again.ensures.same c.if-again.false) in
    c.in_ok-table.ensures.may
    (above_all (g.A.Adopter.HasAnswered c.args.adopter.now) c.enter-version.result (adopted_in c.again.new.self.going) c.enter-version.ensures.rises
    (subst (λ (x : Option Going). AllByRecursion (λ (s : Span). g.A.Adopter.HasAnswered c.args.adopter.now s.version) (adopted_in x)) (sym same) c.requires.answered))

pub returns-clause-rises : goal.returns-clause-rises
returns-clause-rises g c =
    let same = ap (λ a. a.going) (c.again.ensures.same c.if-again.false) in
    on_ok_weaker c.adopt.result
    (λ is. subst (λ (x : Option Going). NeverFalls (rows_of (adopted_in x)) → NeverFalls (rows_of (adopted_in c.adopt.new.self.going))) same
    (rises_after c.enter-version.result c.in_ok-table.table.value c.again.new.self.going c.adopt.new.self.going (subst IsSome (sym same) c.requires.started) is
    (c.in_ok-table.ensures.may
    (above_all (g.A.Adopter.HasAnswered c.args.adopter.now) c.enter-version.result (adopted_in c.again.new.self.going) c.enter-version.ensures.rises
    (subst (λ (x : Option Going). AllByRecursion (λ (s : Span). g.A.Adopter.HasAnswered c.args.adopter.now s.version) (adopted_in x)) (sym same) c.requires.answered)))))
    c.adopt.ensures.going

pub returns-clause-tables : goal.returns-clause-tables
returns-clause-tables g c =
    let same = ap (λ a. a.going) (c.again.ensures.same c.if-again.false) in
    on_ok_weaker c.adopt.result
    (λ is. tables_after c.enter-version.result c.in_ok-table.table.value c.again.new.self.going c.adopt.new.self.going (subst IsSome (sym same) c.requires.started) is
    (g.A.Adopter.tables c.args.adopter.now) (g.A.Adopter.tables c.enter-version.new.self) (g.A.Adopter.tables c.table_of.new.adopter)
    c.enter-version.ensures.grown c.table_of.ensures.grown (subst (λ (x : Option Going). HaveTables (g.A.Adopter.tables c.args.adopter.now) (adopted_in x)) (sym same) c.requires.tables) c.in_ok-table.ensures.table)
    c.adopt.ensures.going

pub returns-clause-answered : goal.returns-clause-answered
returns-clause-answered g c =
    let same = ap (λ a. a.going) (c.again.ensures.same c.if-again.false) in
    on_ok_weaker c.adopt.result
    (λ is. answered_after c.enter-version.result c.in_ok-table.table.value c.again.new.self.going c.adopt.new.self.going (subst IsSome (sym same) c.requires.started) is
    (g.A.Adopter.HasAnswered c.args.adopter.now) (g.A.Adopter.HasAnswered c.enter-version.new.self) (g.A.Adopter.HasAnswered c.table_of.new.adopter)
    c.enter-version.ensures.kept c.table_of.ensures.kept c.enter-version.ensures.answered (subst (λ (x : Option Going). AllByRecursion (λ (s : Span). g.A.Adopter.HasAnswered c.args.adopter.now s.version) (adopted_in x)) (sym same) c.requires.answered))
    c.adopt.ensures.going

pub returns-clause-answers : goal.returns-clause-answers
returns-clause-answers g c =
    let same = ap (λ a. a.going) (c.again.ensures.same c.if-again.false) in
    on_ok_weaker c.adopt.result
    (λ is before so_far.
    subst (g.A.Adopter.Answers c.table_of.new.adopter)
    (written_after c.enter-version.result c.in_ok-table.table.value c.args.self.now.going c.adopt.new.self.going c.requires.started (rw same at is) before)
    (c.table_of.ensures.answers _ (c.enter-version.ensures.answers _ so_far)))
    c.adopt.ensures.going

-- ---- the version that was adopted last, once more

pub returns-then-again-clause-rises : goal.returns-then-again-clause-rises
returns-then-again-clause-rises g c =
    let spans = adopted_in c.args.self.now.going in
    rises_after c.enter-version.result (last_table spans) c.args.self.now.going c.again.new.self.going c.requires.started (c.again.ensures.going c.if-again.true)
    (may_again c.enter-version.result spans (c.again.ensures.known c.if-again.true))

pub returns-then-again-clause-tables : goal.returns-then-again-clause-tables
returns-then-again-clause-tables g c =
    let spans = adopted_in c.args.self.now.going in
    let tables = g.A.Adopter.tables c.enter-version.new.self in
    tables_after c.enter-version.result (last_table spans) c.args.self.now.going c.again.new.self.going c.requires.started (c.again.ensures.going c.if-again.true)
    (g.A.Adopter.tables c.args.adopter.now) tables tables
    c.enter-version.ensures.grown ([], sym (append-nil tables)) c.requires.tables
    (λ have. there tables c.enter-version.result (last_table spans) spans have (table_again c.enter-version.result spans (c.again.ensures.known c.if-again.true)))

pub returns-then-again-clause-answered : goal.returns-then-again-clause-answered
returns-then-again-clause-answered g c =
    let spans = adopted_in c.args.self.now.going in
    answered_after c.enter-version.result (last_table spans) c.args.self.now.going c.again.new.self.going c.requires.started (c.again.ensures.going c.if-again.true)
    (g.A.Adopter.HasAnswered c.args.adopter.now) (g.A.Adopter.HasAnswered c.enter-version.new.self) (g.A.Adopter.HasAnswered c.enter-version.new.self)
    c.enter-version.ensures.kept (λ v is. is) c.enter-version.ensures.answered c.requires.answered

pub returns-then-again-clause-answers : goal.returns-then-again-clause-answers
returns-then-again-clause-answers g c = λ before so_far.
    let spans = adopted_in c.args.self.now.going in
    subst (g.A.Adopter.Answers c.enter-version.new.self)
    (written_after c.enter-version.result (last_table spans) c.args.self.now.going c.again.new.self.going c.requires.started (c.again.ensures.going c.if-again.true) before)
    (c.enter-version.ensures.answers _ so_far)
