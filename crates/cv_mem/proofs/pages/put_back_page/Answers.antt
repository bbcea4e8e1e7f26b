use Rattle.std.proofs.Common.{inl, inr, sym, ◌∙◌, arith}
use Rattle.std.proofs.lemmas.Bool.{cases_lt}
use Rattle.cv_mem.proofs.PutBack.{part_in, part_below, part_above, zero_past}
use Rattle.cv_mem.proofs.pages.put_back_page.Goals as goal

pub returns-then-at-start-clause-inside : goal.returns-then-at-start-clause-inside
returns-then-at-start-clause-inside c = λ a l u.
    elim (cases_lt a c.min-end.result) [
      | inl s ↦ part_in _ _ _ _ _ a c.write_at.ensures (omega arith) l (omega arith)
      | inr s ↦ part_above _ _ _ _ _ a c.write_at.ensures (omega arith) (omega arith)
          ∙ c.clear_page.ensures.inside a l u
          ∙ sym (zero_past _ a (omega arith))
    ]

pub returns-then-at-start-clause-below : goal.returns-then-at-start-clause-below
returns-then-at-start-clause-below c = λ a l.
    part_below _ _ _ _ _ a c.write_at.ensures l ∙ c.clear_page.ensures.below a l

pub returns-then-at-start-clause-above : goal.returns-then-at-start-clause-above
returns-then-at-start-clause-above c = λ a u.
    part_above _ _ _ _ _ a c.write_at.ensures (omega arith) (omega arith) ∙ c.clear_page.ensures.above a u
