-- What a note and a load make of a pass after its post.
use Rattle.std.proofs.Common.{◌≡◌, ℕ, Bool, cond, List, [], ◌∷◌, ◌++◌, Option, Some, None, ⊎_elim, refl, ap, ◌∙◌, arith}
use Rattle.std.proofs.lemmas.Bool.Decides.{eqb_tells}
use mathlib.Core.List.{IsPrefix}
use Rattle.cv_rule.specs.Counts.{entry_with, if_so, longer}
use Rattle.cv_rule.specs.Laws.{BookedIsFound, PostSettles}
use Rattle.cv_rule.specs.Steps.{joined, merging, note_of, renewed, settled, settled_by}
use Rattle.cv_rule.specs.declared.view.Posted.{Posted}
use Rattle.cv_rule.specs.declared.view.View.{View}

-- the longer of a list and one of its beginnings is the list
longer_second : {A : Type 0} (xs ys : List A) → IsPrefix xs ys → longer xs ys ≡ ys
longer_second [] ys p = refl
longer_second (x ∷ xs) [] p = absurd (cc (p.1))
longer_second (x ∷ xs) (y ∷ ys) p = let rest = longer_second xs ys (p.0, cc (p.1)) in cc (p.1, rest)

pub post_settles : (M T : Type 0) → PostSettles M T
post_settles M T v m draw t begins way found =
    let J = joined v (note_of m []) in
    let met : entry_with draw (merging J).known.posted ≡ Some t = ap (λ (l : List Posted). entry_with draw l) (longer_second v.known.posted m.known.posted begins) ∙ found in
    let is : renewed J ≡ settled (merging J) draw (Some t) = ap (λ (w : Option ℕ). settled_by (merging J) w) way ∙ ap (λ (e : Option Posted). settled (merging J) draw e) met in
    record {
      found = ap (λ (x : View M T). entry_with draw x.known.posted) is ∙ met;
      role = ap (λ (x : View M T). x.role) is;
      floor = ap (λ (x : View M T). x.floor) is;
      loaded = ap (λ (x : View M T). x.loaded) is;
      on_its_way = ap (λ (x : View M T). x.on_its_way) is;
      hand = ap (λ (x : View M T). x.hand) is;
      posts = ap (λ (x : View M T). x.posts) is;
    }

pub booked_is_found : BookedIsFound
booked_is_found [] t none = ⊎_elim (λ x. ap (λ (b : Bool). cond b (Some t) None) x.0) (λ x. absurd (x.1 refl)) (eqb_tells t.draw t.draw)
booked_is_found (u ∷ us) t none =
    ⊎_elim
    (λ x. absurd (let a = ap (λ (b : Bool). if_so b 1) x.0 in omega arith))
    (λ x. let a = ap (λ (b : Bool). if_so b 1) x.0 in ap (λ (b : Bool). cond b (Some u) (entry_with t.draw (us ++ t ∷ []))) x.0 ∙ booked_is_found us t (omega arith))
    (eqb_tells u.draw t.draw)
