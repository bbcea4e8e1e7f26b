use Rattle.std.proofs.Common.{◌≡◌, ◌∙◌, ◌++◌, ◌∷◌, [], ◌&&◌, ℕ, List, refl, sym, subst, ap, arith}
use Rattle.std.proofs.lemmas.List.{map-append}
use Rattle.cv_base.specs.Registers.{register}
use Rattle.cv_base.specs.declared.entries.Observation.{Observation}
use Rattle.cv_runs.specs.Invariants.{signed_le}
use Rattle.cv_runs.specs.Learned.{is_ordered, values_of}
use Rattle.cv_observe.proofs.AtPoints.{ordered_more, words_more}
use Rattle.cv_observe.specs.Kept.{IsFew, least_of}
use Rattle.cv_observe.proofs.register.Register.see.Goals as goal

pub returns-clause-kept : goal.returns-clause-kept
returns-clause-kept c window here o same is =
    let r = c.args.self.now.number in
    let regs = c.args.regs.now in
    let v = c.get-value.result in
    let fits = c.get-value.type_inv in
    let of : v ≡ register o.regs r = c.get-value.ensures ∙ ap (λ l. register l r) (sym same) in
    let more : values_of r here ++ v ∷ [] ≡ values_of r (here ++ o ∷ []) =
    ap (λ n. values_of r here ++ n ∷ []) of ∙ sym (map-append (λ (x : Observation). register x.regs r) here (o ∷ [])) in record {
      values = subst (IsFew 4 c.add.new.self.numbers.items c.add.new.self.more) more (c.add.ensures (values_of r here) is.values);
      words = words_more r v here o of (omega arith) is.words;
      least = c.keep_least.ensures (values_of r here) is.least ∙ ap least_of more;
      above = λ b.
          c.at_least-self.ensures b
          ∙ ap (λ t. t && signed_le v (register regs b)) (is.above b)
          ∙ ap (λ n. (window b && is_ordered here r b) && signed_le n (register regs b)) of
          ∙ ap (λ (l : List ℕ). (window b && is_ordered here r b) && signed_le (register o.regs r) (register l b)) (sym same)
          ∙ ordered_more (window b) here o r b;
      below = λ b.
          c.at_most-self.ensures b
          ∙ ap (λ t. t && signed_le (register regs b) v) (is.below b)
          ∙ ap (λ n. (window b && is_ordered here b r) && signed_le (register regs b) n) of
          ∙ ap (λ (l : List ℕ). (window b && is_ordered here b r) && signed_le (register l b) (register o.regs r)) (sym same)
          ∙ ordered_more (window b) here o b r;
    }
