-- Each step keeps what the rule says of versions.
use Rattle.std.proofs.Common.{◌≡◌, ◌≢◌, ◌≤◌, ◌<◌, ◌+◌, ◌-◌, ℕ, List, [], ◌∷◌, ◌++◌, length, Bool, true, false, cond, ◌==◌, Option, Some, None, ⊎_elim, refl, sym, ap, ◌∙◌, subst, arith, length-append}
use Rattle.std.specs.Prelude.{max, slice_set}
use Rattle.std.specs.List.{AllByRecursion}
use Rattle.std.proofs.lemmas.Bool.{cases_eq}
use Rattle.std.proofs.lemmas.Option.{same_Some}
use mathlib.Core.List.{IsPrefix}
use Rattle.cv_rule.proofs.Places.{at_longer, each_join, each_set, each_split, only_one, same_place, set_else, set_here}
use Rattle.cv_rule.proofs.Prefixes.{all_append, all_more, also_begins_longer, begins_longer, longer_begins, longer_one, longer_whole, prefix_append, prefix_length, prefix_self, prefix_trans}
use Rattle.cv_rule.specs.Counts.{Within, entry_with, longer}
use Rattle.cv_rule.specs.Laws.{WithinGrows}
use Rattle.cv_rule.specs.Rule.{AreVersions, Has, IsKnown, IsVersionsView}
use Rattle.cv_rule.specs.Steps.{drawn, entered, entries_of, giving_back, joined, known_at_start, master_at_start, merged, merging, new_pass, note_of, noted_in, posting, renewed, seating, sending, settled, settled_by, spent}
use Rattle.cv_rule.specs.declared.view.Known.{Known}
use Rattle.cv_rule.specs.declared.view.Opening.{Opening}
use Rattle.cv_rule.specs.declared.view.Posted.{Posted}
use Rattle.cv_rule.specs.declared.view.Role.TheVariants.{Master, Pass, Spent}
use Rattle.cv_rule.specs.declared.view.Row.{Row}
use Rattle.cv_rule.specs.declared.view.View.{View}

pub within_push : (low high high' : ℕ) (ns : List ℕ) → low ≤ high' → high ≤ high' → Within low high ns → Within low high' (ns ++ high' ∷ [])
within_push low high high' [] a b w = (a, omega arith, tt)
within_push low high high' (n ∷ ns) a b w = (w.0, omega (arith, w.1), within_push n high high' ns (omega (arith, w.1)) b w.2)

-- versions stay within a higher bound
pub within_high : (low high high' : ℕ) (ns : List ℕ) → high ≤ high' → Within low high ns → Within low high' ns
within_high low high high' [] b w = tt
within_high low high high' (n ∷ ns) b w = (w.0, omega (arith, w.1), within_high n high high' ns b w.2)

pub within_grows : WithinGrows
within_grows low high more loaded above w = (within_high low high more loaded above w, λ from. within_push low high more loaded from above w)

-- what holds of each entry holds of one that was found
pub found_in : (P : Posted → Type 0) (draw : ℕ) (ts : List Posted) (t : Posted) → AllByRecursion P ts → entry_with draw ts ≡ Some t → P t
found_in P draw [] t all e = absurd cc
found_in P draw (u ∷ us) t all e = found_here P draw us u t (u.draw == draw) all.0 (λ e'. found_in P draw us t all.1 e') e
  where
    found_here : (P : Posted → Type 0) (draw : ℕ) (us : List Posted) (u t : Posted) (b : Bool) → P u → (entry_with draw us ≡ Some t → P t) → cond b (Some u) (entry_with draw us) ≡ Some t → P t
    found_here P draw us u t true here later e = subst P (same_Some u t e) here
    found_here P draw us u t false here later e = later e

entries_all : (P : Posted → Type 0) (version : ℕ) (hand : List Row) → ((worker draw : ℕ) → P (record { worker = worker; draw = draw; version = version })) → AllByRecursion P (entries_of version hand)
entries_all P version [] each = tt
entries_all P version (r ∷ rs) each = (each r.worker r.draw, entries_all P version rs each)

module _ {M T : Type 0} where
  -- ---- the rule after a change

  -- the master is still there where a seat changed and kept its role
  there_set : (views : List (View M T)) (master id : ℕ) (v w : View M T) → Has views id v → w.role ≡ v.role
      → (m : View M T) × Has views master m × (m.role ≡ Master)
      → (m : View M T) × Has (slice_set views id w) master m × (m.role ≡ Master)
  there_set views master id v w at role there =
      ⊎_elim
      (λ same. let at' : Has views id there.0 = subst (λ (k : ℕ). Has views k there.0) same there.1 in
      let is : v ≡ there.0 = same_place views id v there.0 at at' in
      (w, subst (λ (k : ℕ). Has (slice_set views id w) k w) (sym same) (set_here views id v w at), role ∙ (ap (λ (x : View M T). x.role) is ∙ there.2)))
      (λ other. (there.0, set_else views id master w other ∙ there.1, there.2))
      (cases_eq master id)

  -- a seat changed, and no list of the master's did
  pub stays : (o : Opening M) (word : ℕ) (versions : List T) (book : List Posted) (master : ℕ) (views : List (View M T)) (id : ℕ) (v w : View M T)
      → AreVersions o word versions book master views → Has views id v → v.role ≢ Spent → w.role ≡ v.role → IsVersionsView o versions book master id w
      → AreVersions o word versions book master (slice_set views id w)
  stays o word versions book master views id v w k at live role view = record {
    word_is = k.word_is;
    most = k.most;
    there = there_set views master id v w at role k.there;
    newest = k.newest;
    book_above = k.book_above;
    each = each_set (λ (j : ℕ) (u : View M T). u.role ≢ Spent → IsVersionsView o versions book master j u) views id w (λ _. view) (λ j u _ has. k.each j u has);
  }

  -- a seat changed, and a new one came
  pub stays_split : (o : Opening M) (word : ℕ) (versions : List T) (book : List Posted) (master : ℕ) (views : List (View M T)) (id : ℕ) (v l r : View M T)
      → AreVersions o word versions book master views → Has views id v → l.role ≡ v.role → IsVersionsView o versions book master id l → ((j : ℕ) → IsVersionsView o versions book master j r)
      → AreVersions o word versions book master (slice_set views id l ++ r ∷ [])
  stays_split o word versions book master views id v l r k at role left right =
      let there = there_set views master id v l at role k.there in
      record {
        word_is = k.word_is;
        most = k.most;
        there = (there.0, at_longer (slice_set views id l) (r ∷ []) master there.0 there.1, there.2);
        newest = k.newest;
        book_above = k.book_above;
        each = each_split (λ (j : ℕ) (u : View M T). u.role ≢ Spent → IsVersionsView o versions book master j u) views id l r (λ _. left) (λ j _. right j) (λ j u _ has. k.each j u has);
      }

  -- a seat changed, and another one was spent
  pub stays_join : (o : Opening M) (word : ℕ) (versions : List T) (book : List Posted) (master : ℕ) (views : List (View M T)) (id other : ℕ) (v w both : View M T)
      → AreVersions o word versions book master views → Has views id v → other ≢ id → Has (slice_set views id both) other w → both.role ≡ v.role → w.role ≢ Master → IsVersionsView o versions book master id both
      → AreVersions o word versions book master (slice_set (slice_set views id both) other spent)
  stays_join o word versions book master views id other v w both k at apart beside role no_master view =
      let there = there_set views master id v both at role k.there in
      let not_other : master ≢ other = λ same. no_master (let has : Has (slice_set views id both) other there.0 = subst (λ (n : ℕ). Has (slice_set views id both) n there.0) same there.1 in
      ap (λ (x : View M T). x.role) (same_place (slice_set views id both) other w there.0 beside has) ∙ there.2) in
      record {
        word_is = k.word_is;
        most = k.most;
        there = (there.0, set_else (slice_set views id both) other master spent not_other ∙ there.1, there.2);
        newest = k.newest;
        book_above = k.book_above;
        each = each_join (λ (j : ℕ) (u : View M T). u.role ≢ Spent → IsVersionsView o versions book master j u) views id other both spent apart (λ _. view) (λ live. absurd (live refl)) (λ j u _ _ has. k.each j u has);
      }

  -- ---- what is known

  pub known_more : (o : Opening M) (versions versions' : List T) (book book' : List Posted) (k : Known M T) → IsPrefix versions versions' → IsPrefix book book' → IsKnown o versions book k → IsKnown o versions' book' k
  known_more o versions versions' book book' k p q is = record {
    opening_is = is.opening_is;
    versions_begin = prefix_trans k.versions versions versions' is.versions_begin p;
    some_version = is.some_version;
    book_begins = prefix_trans k.posted book book' is.book_begins q;
    below = is.below;
  }

  pub known_merged : (o : Opening M) (versions : List T) (book : List Posted) (k b : Known M T) → IsKnown o versions book k → IsKnown o versions book b → IsKnown o versions book (merged k b)
  known_merged o versions book k b is other =
      let long = prefix_length k.versions (longer k.versions b.versions) (begins_longer k.versions b.versions) in
      let also = prefix_length b.versions (longer k.versions b.versions) (also_begins_longer k.versions b.versions versions is.versions_begin other.versions_begin) in
      let P : List Posted → Type 0 = λ (ts : List Posted). AllByRecursion (λ (t : Posted). t.version < length (longer k.versions b.versions)) ts in
      record {
        opening_is = is.opening_is;
        versions_begin = longer_begins k.versions b.versions versions is.versions_begin other.versions_begin;
        some_version = let some = is.some_version in omega arith;
        book_begins = longer_begins k.posted b.posted book is.book_begins other.book_begins;
        below = ⊎_elim
            (λ e. subst P (sym e) (all_more (λ (t : Posted). t.version < length k.versions) (λ (t : Posted). t.version < length (longer k.versions b.versions)) (λ t lt. omega arith) k.posted is.below))
            (λ e. subst P (sym e) (all_more (λ (t : Posted). t.version < length b.versions) (λ (t : Posted). t.version < length (longer k.versions b.versions)) (λ t lt. omega arith) b.posted other.below))
            (longer_one k.posted b.posted book is.book_begins other.book_begins);
      }

  -- ---- make a pass's seat

  pub seats : (o : Opening M) (word : ℕ) (versions : List T) (book : List Posted) (master : ℕ) (views : List (View M T)) (id : ℕ) (m : View M T)
      → AreVersions o word versions book master views → Has views id m → m.role ≡ Master
      → AreVersions o word versions book master (slice_set views id (seating m) ++ new_pass m ∷ [])
  seats o word versions book master views id m k at role =
      let is = k.each id m at (λ e. absurd (cc (role, e))) in
      let all : length m.known.versions ≡ length versions = ap (λ (l : List T). length l) (is.own role).1 in
      stays_split o word versions book master views id m (seating m) (new_pass m) k at refl
      (record { own = is.own; known = is.known; beside = is.beside; reach = is.reach; loaded = is.loaded; floor = is.floor })
      (λ j. record {
        own = λ e. absurd cc;
        known = is.known;
        beside = is.known;
        reach = let some = is.known.some_version in omega arith;
        loaded = tt;
        floor = let some = is.known.some_version in omega arith;
      })

  -- ---- loads

  pub enters : (o : Opening M) (word : ℕ) (versions : List T) (book : List Posted) (master : ℕ) (views : List (View M T)) (id : ℕ) (v : View M T) (worker : ℕ)
      → AreVersions o word versions book master views → Has views id v → v.role ≡ Pass worker
      → AreVersions o word versions book master (slice_set views id (entered v (word - 1)))
  enters o word versions book master views id v worker k at role =
      let live : v.role ≢ Spent = λ e. absurd (cc (role, e)) in
      let is = k.each id v at live in
      let word_is = k.word_is in
      let reach = is.reach in
      let floor = is.floor in
      let long = prefix_length v.known.versions versions is.known.versions_begin in
      stays o word versions book master views id v (entered v (word - 1)) k at live refl
      (record {
        own = is.own;
        known = is.known;
        beside = is.beside;
        reach = omega arith;
        loaded = within_push v.floor v.reach (word - 1) v.loaded (omega arith) (omega arith) is.loaded;
        floor = is.floor;
      })

  settled_role : (v : View M T) (draw : ℕ) (found : Option Posted) → (settled v draw found).role ≡ v.role
  settled_role v draw None = refl
  settled_role v draw (Some t) = refl

  settled_by_role : (v : View M T) (way : Option ℕ) → (settled_by v way).role ≡ v.role
  settled_by_role v None = refl
  settled_by_role v (Some draw) = settled_role v draw (entry_with draw v.known.posted)

  pub renewed_role : (v : View M T) → (renewed v).role ≡ v.role
  renewed_role v = settled_by_role (merging v) v.on_its_way

  settled_view : (o : Opening M) (versions : List T) (book : List Posted) (master id : ℕ) (v : View M T) (draw : ℕ) (found : Option Posted)
      → entry_with draw v.known.posted ≡ found → IsVersionsView o versions book master id v → IsVersionsView o versions book master id (settled v draw found)
  settled_view o versions book master id v draw None e is = is
  settled_view o versions book master id v draw (Some t) e is = record {
    own = is.own;
    known = is.known;
    beside = is.beside;
    reach = is.reach;
    loaded = tt;
    floor = found_in (λ (t : Posted). t.version < length v.known.versions) draw v.known.posted t is.known.below e;
  }

  settled_by_view : (o : Opening M) (versions : List T) (book : List Posted) (master id : ℕ) (v : View M T) (way : Option ℕ)
      → IsVersionsView o versions book master id v → IsVersionsView o versions book master id (settled_by v way)
  settled_by_view o versions book master id v None is = is
  settled_by_view o versions book master id v (Some draw) is = settled_view o versions book master id v draw (entry_with draw v.known.posted) refl is

  merging_view : (o : Opening M) (versions : List T) (book : List Posted) (master id : ℕ) (v : View M T)
      → IsVersionsView o versions book master id v → IsVersionsView o versions book master id (merging v)
  merging_view o versions book master id v is =
      let known = known_merged o versions book v.known v.beside is.known is.beside in
      let long = prefix_length v.known.versions (longer v.known.versions v.beside.versions) (begins_longer v.known.versions v.beside.versions) in
      let floor = is.floor in
      record {
        own = λ e. let own = is.own e in (
          own.0,
          longer_whole v.known.versions v.beside.versions (subst (λ (l : List T). IsPrefix v.beside.versions l) (sym own.1) is.beside.versions_begin) ∙ own.1,
          longer_whole v.known.posted v.beside.posted (subst (λ (l : List Posted). IsPrefix v.beside.posted l) (sym own.2) is.beside.book_begins) ∙ own.2,
        );
        known = known;
        beside = known;
        reach = is.reach;
        loaded = is.loaded;
        floor = omega arith;
      }

  pub renews : (o : Opening M) (word : ℕ) (versions : List T) (book : List Posted) (master : ℕ) (views : List (View M T)) (id : ℕ) (v : View M T)
      → AreVersions o word versions book master views → Has views id v → v.role ≢ Spent
      → AreVersions o word versions book master (slice_set views id (renewed v))
  renews o word versions book master views id v k at live =
      stays o word versions book master views id v (renewed v) k at live (renewed_role v)
      (settled_by_view o versions book master id (merging v) v.on_its_way (merging_view o versions book master id v (k.each id v at live)))

  -- ---- the master's row goes to its book list

  posting_known : (o : Opening M) (versions more : List T) (book : List Posted) (version : ℕ) (hand : List Row) (k : Known M T) → k.versions ≡ versions → k.posted ≡ book → version < length (versions ++ more)
      → IsKnown o versions book k → IsKnown o (versions ++ more) (book ++ entries_of version hand) (noted_in k more version hand)
  posting_known o versions more book version hand k e f low is =
      let long = length-append versions more in
      let all : length k.versions ≡ length versions = ap (λ (l : List T). length l) e in
      let all' : length (k.versions ++ more) ≡ length (versions ++ more) = ap (λ (l : List T). length (l ++ more)) e in
      let some = is.some_version in
      record {
        opening_is = is.opening_is;
        versions_begin = subst (λ (l : List T). IsPrefix (l ++ more) (versions ++ more)) (sym e) (prefix_self (versions ++ more));
        some_version = omega arith;
        book_begins = subst (λ (l : List Posted). IsPrefix (l ++ entries_of version hand) (book ++ entries_of version hand)) (sym f) (prefix_self (book ++ entries_of version hand));
        below = all_append (λ (t : Posted). t.version < length (k.versions ++ more)) k.posted (entries_of version hand)
            (all_more (λ (t : Posted). t.version < length k.versions) (λ (t : Posted). t.version < length (k.versions ++ more)) (λ t lt. omega arith) k.posted is.below)
            (entries_all (λ (t : Posted). t.version < length (k.versions ++ more)) version hand (λ worker draw. omega arith));
      }

  pub posts : (o : Opening M) (word word' : ℕ) (versions more : List T) (book : List Posted) (version master : ℕ) (views : List (View M T)) (id : ℕ) (v : View M T)
      → AreVersions o word versions book master views → Has views id v → v.role ≡ Master
      → word' ≡ length (versions ++ more) → length (versions ++ more) ≤ 1025 → version ≡ length (versions ++ more) - 1
      → AreVersions o word' (versions ++ more) (book ++ entries_of version v.hand) master (slice_set views id (posting v more version))
  posts o word word' versions more book version master views id v k at role word_is most is_version =
      let live : v.role ≢ Spent = λ e. absurd (cc (role, e)) in
      let is = k.each id v at live in
      let own = is.own role in
      let long = length-append versions more in
      let newest = k.newest in
      let reach = is.reach in
      let floor = is.floor in
      let longer_still : length v.known.versions ≤ length (v.known.versions ++ more) = omega (arith, length-append v.known.versions more) in
      let known = posting_known o versions more book version v.hand v.known own.1 own.2 (omega arith) is.known in
      record {
        word_is = word_is;
        most = most;
        there = there_set views master id v (posting v more version) at refl k.there;
        newest = omega arith;
        book_above = all_append (λ (t : Posted). o.newest ≤ t.version) book (entries_of version v.hand) k.book_above
            (entries_all (λ (t : Posted). o.newest ≤ t.version) version v.hand (λ worker draw. omega arith));
        each = each_set (λ (j : ℕ) (u : View M T). u.role ≢ Spent → IsVersionsView o (versions ++ more) (book ++ entries_of version v.hand) master j u) views id (posting v more version)
            (λ _. record {
              own = λ e. (own.0, ap (λ (l : List T). l ++ more) own.1, ap (λ (l : List Posted). l ++ entries_of version v.hand) own.2);
              known = known;
              beside = known;
              reach = omega arith;
              loaded = is.loaded;
              floor = omega arith;
            })
            (λ j u other has alive. let of = k.each j u has alive in let near = of.reach in record {
              own = λ e. absurd (other ((of.own e).0 ∙ sym own.0));
              known = known_more o versions (versions ++ more) book (book ++ entries_of version v.hand) u.known (prefix_append versions more) (prefix_append book (entries_of version v.hand)) of.known;
              beside = known_more o versions (versions ++ more) book (book ++ entries_of version v.hand) u.beside (prefix_append versions more) (prefix_append book (entries_of version v.hand)) of.beside;
              reach = omega arith;
              loaded = of.loaded;
              floor = of.floor;
            });
      }

  -- ---- what leaves versions alone

  pub draws : (o : Opening M) (word : ℕ) (versions : List T) (book : List Posted) (master : ℕ) (views : List (View M T)) (id : ℕ) (v : View M T) (draw : ℕ)
      → AreVersions o word versions book master views → Has views id v → v.role ≢ Spent
      → AreVersions o word versions book master (slice_set views id (drawn v draw))
  draws o word versions book master views id v draw k at live =
      let is = k.each id v at live in
      stays o word versions book master views id v (drawn v draw) k at live refl
      (record { own = is.own; known = is.known; beside = is.beside; reach = is.reach; loaded = is.loaded; floor = is.floor })

  note_view : (o : Opening M) (versions : List T) (book : List Posted) (master id j : ℕ) (v : View M T) (hand : List Row)
      → IsVersionsView o versions book master id v → IsVersionsView o versions book master j (note_of v hand)
  note_view o versions book master id j v hand is = record {
    own = λ e. absurd cc;
    known = is.known;
    beside = is.known;
    reach = is.reach;
    loaded = tt;
    floor = is.known.some_version;
  }

  pub notes : (o : Opening M) (word : ℕ) (versions : List T) (book : List Posted) (master : ℕ) (views : List (View M T)) (id : ℕ) (v : View M T) (hand : List Row)
      → AreVersions o word versions book master views → Has views id v → v.role ≢ Spent
      → AreVersions o word versions book master (slice_set views id v ++ note_of v hand ∷ [])
  notes o word versions book master views id v hand k at live =
      let is = k.each id v at live in
      stays_split o word versions book master views id v v (note_of v hand) k at refl is (λ j. note_view o versions book master id j v hand is)

  pub sends : (o : Opening M) (word : ℕ) (versions : List T) (book : List Posted) (master : ℕ) (views : List (View M T)) (id : ℕ) (v : View M T)
      → AreVersions o word versions book master views → Has views id v → v.role ≢ Spent
      → AreVersions o word versions book master (slice_set views id (sending v) ++ note_of v v.hand ∷ [])
  sends o word versions book master views id v k at live =
      let is = k.each id v at live in
      stays_split o word versions book master views id v (sending v) (note_of v v.hand) k at refl
      (record { own = is.own; known = is.known; beside = is.beside; reach = is.reach; loaded = is.loaded; floor = is.floor })
      (λ j. note_view o versions book master id j v v.hand is)

  pub gives_back : (o : Opening M) (word : ℕ) (versions : List T) (book : List Posted) (master : ℕ) (views : List (View M T)) (id : ℕ) (v : View M T)
      → AreVersions o word versions book master views → Has views id v → v.role ≢ Spent
      → AreVersions o word versions book master (slice_set views id (giving_back v) ++ note_of v v.hand ∷ [])
  gives_back o word versions book master views id v k at live =
      let is = k.each id v at live in
      stays_split o word versions book master views id v (giving_back v) (note_of v v.hand) k at refl
      (record { own = is.own; known = is.known; beside = is.beside; reach = is.reach; loaded = is.loaded; floor = is.floor })
      (λ j. note_view o versions book master id j v v.hand is)

  -- ---- joins

  pub joins : (o : Opening M) (word : ℕ) (versions : List T) (book : List Posted) (master : ℕ) (views : List (View M T)) (id other : ℕ) (v w : View M T)
      → AreVersions o word versions book master views → Has views id v → other ≢ id → Has (slice_set views id (joined v w)) other w → v.role ≢ Spent → w.role ≢ Spent → w.role ≢ Master
      → AreVersions o word versions book master (slice_set (slice_set views id (joined v w)) other spent)
  joins o word versions book master views id other v w k at apart beside live alive no_master =
      let is = k.each id v at live in
      let of = k.each other w (sym (set_else views id other (joined v w) apart) ∙ beside) alive in
      let reach = is.reach in
      let reach' = of.reach in
      stays_join o word versions book master views id other v w (joined v w) k at apart beside refl no_master
      (record {
        own = is.own;
        known = is.known;
        beside = of.known;
        reach = omega arith;
        loaded = within_high v.floor v.reach (max v.reach w.reach) v.loaded (omega arith) is.loaded;
        floor = is.floor;
      })

  -- ---- the start

  pub starts : (o : Opening M) (versions : List T) (absent : List ℕ) → length versions ≡ o.newest + 1 → length versions ≤ 1025
      → AreVersions o (length versions) versions [] 0 (master_at_start o versions absent ∷ [])
  starts o versions absent few most =
      let known : IsKnown o versions [] (known_at_start o versions) = record { opening_is = refl; versions_begin = prefix_self versions; some_version = omega arith; book_begins = prefix_self []; below = tt } in
      let view : IsVersionsView o versions [] 0 0 (master_at_start o versions absent) = record { own = λ e. (refl, refl, refl); known = known; beside = known; reach = omega arith; loaded = tt; floor = omega arith } in
      record {
        word_is = refl;
        most = most;
        there = (master_at_start o versions absent, refl, refl);
        newest = omega arith;
        book_above = tt;
        each = λ id v at live. only_one (λ (j : ℕ) (u : View M T). IsVersionsView o versions [] 0 j u) (master_at_start o versions absent) view id v at;
      }
