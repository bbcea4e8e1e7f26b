-- Plain turns that lead from a state to another: one more of them, and what is left of a run behind
-- them.
use Rattle.std.proofs.Common.{◌≡◌, ◌≤◌, ◌<◌, ◌+◌, ℕ, suc, zero, Bool, true, false, sym, ap, refl, subst, add-one, arith}
use Rattle.cv_base.specs.Picture.{Picture}
use Rattle.cv_machine.specs.Answers.{answer_of, left_by}
use Rattle.cv_machine.specs.Held.{Held, state_of}
use Rattle.cv_machine.specs.PlainTurns.{GoesOn, LastOf, IsStretch, LeadTo}
use Rattle.cv_machine.specs.Quick.{state_at, Tells, IsNext}
use Rattle.cv_machine.specs.declared.quick.Quick.{Quick}
use Rattle.cv_machine.specs.declared.quick.Quick.TheVariants.{On, Jump, Slow}
use Rattle.cv_machine.proofs.Remains.{Remains, more}
use Rattle.cv_runs.specs.PlainTurn.{turn_of}
use Rattle.cv_runs.specs.State.{State, Outcome, Next, Ended}

goes_on : (o : Outcome) (R : State → Bool → Type 0) (u : State) (transfer : Bool) → o ≡ Next u transfer → R u transfer → GoesOn o R
goes_on o R u transfer e r = subst (λ (p : Outcome). GoesOn p R) (sym e) r

still_goes : (o : Outcome) (R S : State → Bool → Type 0) → ((n : State) (b : Bool) → R n b → S n b) → GoesOn o R → GoesOn o S
still_goes (Next n b) R S f r = f n b r
still_goes (Ended e) R S f r = r

lead_more : (image : Picture) (k : ℕ) (s t u : State) (transfer : Bool) → LeadTo image k s t → turn_of image t ≡ Next u transfer → LeadTo image (suc k) s u
lead_more image zero s t u transfer same turn =
    goes_on (turn_of image s) (λ next b. u ≡ next) u transfer (rw same at turn) refl
lead_more image (suc k) s t u transfer lead turn =
    still_goes (turn_of image s) (λ next b. LeadTo image k next t) (λ next b. LeadTo image (suc k) next u) (λ n b r. lead_more image k n t u transfer r turn) lead

went_more : (image : Picture) (k : ℕ) (s : State) (h n : Held) (at next : ℕ) (went : Quick) → LeadTo image k s (state_at h at) → Tells h n (turn_of image (state_at h at)) went → IsNext went next → LeadTo image (suc k) s (state_at n next)
went_more image k s h n at next (On place) lead tells is =
    rw is at (lead_more image k s (state_at h at) (state_at n place) false lead tells)
went_more image k s h n at next (Jump place) lead tells is =
    rw is at (lead_more image k s (state_at h at) (state_at n place) true lead tells)
went_more image k s h n at next Slow lead tells is = absurd is

-- one more quick turn
pub quick_more : (image : Picture) (k : ℕ) (s : State) (h n : Held) (at next : ℕ) (went : Quick) → h.image ≡ image → LeadTo image k s (state_at h at) → Tells h n (turn_of h.image (state_at h at)) went → IsNext went next → LeadTo image (k + 1) s (state_at n next)
quick_more image k s h n at next went same lead tells is =
    let before : LeadTo h.image k s (state_at h at) = subst (λ (p : Picture). LeadTo p k s (state_at h at)) (sym same) lead in
    let after = went_more h.image k s h n at next went before tells is in
    let e : k + 1 ≡ suc k = add-one k in
    rw e (subst (λ (p : Picture). LeadTo p (suc k) s (state_at n next)) same after)

further_of : (image : Picture) (start : State) (budget done k : ℕ) (s t : State) (o : Outcome) → turn_of image s ≡ o → done < budget → ((n : State) → LeadTo image k n t → Remains image start budget (done + 1) n → Remains image start budget (done + suc k) t) → GoesOn o (λ n b. LeadTo image k n t) → Remains image start budget done s → Remains image start budget (done + suc k) t
further_of image start budget done k s t (Next n b) is below ih lead r =
    ih n lead (more image start budget done s n b below (sym (ap answer_of is)) (sym (ap (λ (o : Outcome). left_by o s) is)) r)
further_of image start budget done k s t (Ended e) is below ih lead r = absurd lead

-- what is left of a run after more turns
pub further : (image : Picture) (start : State) (budget done k : ℕ) (s t : State) → done + k ≤ budget → LeadTo image k s t → Remains image start budget done s → Remains image start budget (done + k) t
further image start budget done zero s t within same r =
    let e : done + 0 ≡ done = omega arith in rw (e, same) r
further image start budget done (suc k) s t within lead r =
    further_of image start budget done k s t (turn_of image s) refl (omega arith)
    (λ n l q. let e : done + suc k ≡ done + 1 + k = omega arith in rw e (further image start budget (done + 1) k n t (omega arith) l q))
    lead r

one_turn : (image : Picture) (u : State) (b : Bool) → LastOf 0 u u b b (IsStretch image 0 u u b)
one_turn image u true = (refl, refl, refl)
one_turn image u false = (refl, refl)

one_later : (image : Picture) (k : ℕ) (n t u : State) (b last : Bool) → (IsStretch image k n t false → IsStretch image (suc k) n u b) → LastOf k n t false last (IsStretch image k n t false) → LastOf (suc k) n u b last (IsStretch image (suc k) n u b)
one_later image k n t u b true ih r = let no : false ≡ true = r.2 in cc
one_later image k n t u b false ih r = ih r

stretch_more : (image : Picture) (k : ℕ) (s t u : State) (b : Bool) → IsStretch image k s t false → turn_of image t ≡ Next u b → IsStretch image (suc k) s u b
stretch_more image zero s t u b lead turn =
    goes_on (turn_of image s) (λ next last. LastOf 0 next u b last (IsStretch image 0 next u b)) u b (rw lead.0 at turn) (one_turn image u b)
stretch_more image (suc k) s t u b lead turn =
    still_goes (turn_of image s) (λ next last. LastOf k next t false last (IsStretch image k next t false)) (λ next last. LastOf (suc k) next u b last (IsStretch image (suc k) next u b))
    (λ n last r. one_later image k n t u b last (λ q. stretch_more image k n t u b q turn) r) lead

-- one more turn of a stretch
pub stretched : (image : Picture) (k : ℕ) (s : State) (h n : Held) (at next : ℕ) (b : Bool) → h.image ≡ image → IsStretch image k s (state_at h at) false → turn_of h.image (state_at h at) ≡ Next (state_at n next) b → IsStretch image (k + 1) s (state_at n next) b
stretched image k s h n at next b same lead turn =
    let before : IsStretch h.image k s (state_at h at) false = subst (λ (p : Picture). IsStretch p k s (state_at h at) false) (sym same) lead in
    let after = stretch_more h.image k s (state_at h at) (state_at n next) b before turn in
    let e : k + 1 ≡ suc k = add-one k in
    rw e (subst (λ (p : Picture). IsStretch p (suc k) s (state_at n next) b) same after)
