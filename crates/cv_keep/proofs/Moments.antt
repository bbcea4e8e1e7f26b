-- How calls of a disk follow one another.
use Rattle.std.proofs.Common.{◌≡◌, inl, inr, ⊎_elim, ℕ, ◌≤◌, min, List, length, take, sym, ap, ◌∙◌, arith}
use Rattle.std.proofs.lemmas.List.{take-take, length-take}
use Rattle.cv_edge.specs.Disk.{Meaning, Torn, Follows, Elapses, LeavesOnly}
use Rattle.cv_edge.specs.DiskLaws.{leaves_none, leaves_then}
use Rattle.cv_keep.specs.Keeping.{Fronts, KeepsFront, Quiet}

module _ {D : Type 0} (means : Meaning D) where
  -- one call
  pub one_call : ((disk : D) (c : List ℕ) → means.image_since disk (means.moment disk) c → means.image disk c) → (old new : D) (P : List ℕ → Type 0) → Elapses means old new
      → ((c : List ℕ) → means.image old c → P c) → ((c : List ℕ) → means.image new c → P c) → LeavesOnly means old new P
  one_call only_now old new P time was is = record {
    later = time.later;
    each = λ c left. ⊎_elim (λ since. was c (only_now old c since)) (is c) (time.nothing_else (means.moment old) c (omega arith) left);
    before = λ t c le left. ⊎_elim (λ since. inl since) (λ now. inr (is c now)) (time.nothing_else t c le left);
  }

  -- calls that change nothing, one after another
  pub quiet_then : (a b c : D) → Quiet means a b → Quiet means b c → Quiet means a c
  quiet_then a b c first second = record {
    still = record {
      content = λ tells. second.still.content tells ∙ first.still.content tells;
      fewer = λ x is. first.still.fewer x (second.still.fewer x is);
      more = λ x is. second.still.more x (first.still.more x is);
    };
    time = record {
      later = omega (arith, first.time.later, second.time.later);
      nothing_else = λ t x le left. ⊎_elim
          (λ since. ⊎_elim (λ was. inl was) (λ is. inr (second.still.more x is)) (first.time.nothing_else t x le since))
          (λ is. inr is)
          (second.time.nothing_else t x (omega (arith, le, first.time.later)) left);
      keeps = λ t x le since. second.time.keeps t x (omega (arith, le, first.time.later)) (first.time.keeps t x le since);
    };
  }

  -- a write behind some bytes keeps them in front
  pub torn_front : (at n : ℕ) (front d c : List ℕ) → length front ≤ at → Torn at n d c → take (length front) d ≡ front → take (length front) c ≡ front
  torn_front at n front d c behind torn same =
      let k = length front in
      let m = min at (length d) in
      let long : k ≤ length d = omega (arith, ap length same, length-take k d) in
      sym (take-take k m c (omega arith)) ∙ ap (λ (l : List ℕ). take k l) torn.below ∙ take-take k at d behind ∙ same

  pub write_front : ((disk : D) (c : List ℕ) → means.image_since disk (means.moment disk) c → means.image disk c) → (old new : D) (at n : ℕ) (front : List ℕ) → length front ≤ at
      → Elapses means old new → Follows (Torn at n) (means.image old) (means.image new) → Fronts means old front → KeepsFront means old new front
  write_front only_now old new at n front behind time torn was =
      let now : Fronts means new front = λ c is. let from = torn c is in torn_front at n front from.0 c behind from.2 (was from.0 from.1) in
      record { now = now; leaves = one_call only_now old new (λ c. take (length front) c ≡ front) time was now }

  pub fronts_then : (a b c : D) (front : List ℕ) → KeepsFront means a b front → KeepsFront means b c front → KeepsFront means a c front
  fronts_then a b c front first second = record { now = second.now; leaves = leaves_then means a b c (λ x. take (length front) x ≡ front) first.leaves second.leaves }

-- each image at a moment from old to now, and each one now, has P
pub record Stands {D : Type 0} (means : Meaning D) (old now : D) (P : List ℕ → Type 0) : Type 0 where
  pub leaves : LeavesOnly means old now P
  pub has : (c : List ℕ) → means.image now c → P c

module _ {D : Type 0} (means : Meaning D) (only_now : (disk : D) (c : List ℕ) → means.image_since disk (means.moment disk) c → means.image disk c) where
  pub stands_at_first : (old : D) (P : List ℕ → Type 0) → ((c : List ℕ) → means.image old c → P c) → Stands means old old P
  stands_at_first old P has = record { leaves = leaves_none means old P (λ c left. has c (only_now old c left)); has = has }

  -- one call more
  pub stands_then : (old a b : D) (P : List ℕ → Type 0) → Stands means old a P → Elapses means a b → ((c : List ℕ) → means.image b c → P c) → Stands means old b P
  stands_then old a b P so_far time has = record { leaves = leaves_then means old a b P so_far.leaves (one_call means only_now a b P time so_far.has has); has = has }

  -- one call more that makes no new image
  pub stands_still : (old a b : D) (P : List ℕ → Type 0) → Stands means old a P → Elapses means a b → ((c : List ℕ) → means.image b c → means.image a c) → Stands means old b P
  stands_still old a b P so_far time fewer = stands_then old a b P so_far time (λ c is. so_far.has c (fewer c is))
