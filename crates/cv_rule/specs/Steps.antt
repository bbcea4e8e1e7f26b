-- What each kind of step makes of a view (docs/REPAIR.md, "The office").
use Rattle.std.specs.Prelude.{◌-◌, ℕ, max, List, [], ◌∷◌, ◌++◌, length, map, Option, Some, None}
use Rattle.cv_rule.specs.Counts.{entry_with, longer}
use Rattle.cv_rule.specs.declared.view.Known.{Known}
use Rattle.cv_rule.specs.declared.view.Opening.{Opening}
use Rattle.cv_rule.specs.declared.view.Posted.{Posted}
use Rattle.cv_rule.specs.declared.view.Role.{Role}
use Rattle.cv_rule.specs.declared.view.Role.TheVariants.{Master, Pass, Note, Spent}
use Rattle.cv_rule.specs.declared.view.Row.{Row}
use Rattle.cv_rule.specs.declared.view.View.{View}

-- ---- at the start

abbrev pub known_at_start : {M T : Type 0} → Opening M → List T → Known M T
known_at_start opening versions = record { opening = Some opening; versions = versions; posted = [] }

-- the master, with the versions of the history at the making; no worker has a pass
abbrev pub master_at_start : {M T : Type 0} → Opening M → List T → List ℕ → View M T
master_at_start opening versions absent = record {
  role = Master;
  known = known_at_start opening versions;
  beside = known_at_start opening versions;
  reach = 0;
  hand = [];
  loaded = [];
  floor = 0;
  on_its_way = None;
  posts = [];
  absent = absent;
}

-- ---- make a pass's seat: for the first of the workers without a pass

abbrev pub first_of : List ℕ → ℕ
first_of [] = 0
first_of (n ∷ ns) = n

abbrev pub others_of : List ℕ → List ℕ
others_of [] = []
others_of (n ∷ ns) = ns

abbrev pub seating : {M T : Type 0} → View M T → View M T
seating m = record m { absent = others_of m.absent }

abbrev pub new_pass : {M T : Type 0} → View M T → View M T
new_pass m = record {
  role = Pass (first_of m.absent);
  known = m.known;
  beside = m.known;
  reach = length m.known.versions - 1;
  hand = [];
  loaded = [];
  floor = length m.known.versions - 1;
  on_its_way = None;
  posts = [];
  absent = [];
}

-- ---- load word 0

-- in `enter`: the newest version that the word tells is loaded
abbrev pub entered : {M T : Type 0} → View M T → ℕ → View M T
entered v version = record v { reach = version; loaded = v.loaded ++ version ∷ [] }

-- after a join the two lists of a sort become the longer one
abbrev pub merged : {M T : Type 0} → Known M T → Known M T → Known M T
merged k b = record k { versions = longer k.versions b.versions; posted = longer k.posted b.posted }

abbrev pub merging : {M T : Type 0} → View M T → View M T
merging v = record v { known = merged v.known v.beside; beside = merged v.known v.beside }

-- a draw on its way that stands in the book list is on its way no more
abbrev pub settled : {M T : Type 0} → View M T → ℕ → Option Posted → View M T
settled v draw None = v
settled v draw (Some t) = record v { loaded = []; floor = t.version; on_its_way = None; posts = v.posts ++ record { draw = draw; loaded = v.loaded } ∷ [] }

abbrev pub settled_by : {M T : Type 0} → View M T → Option ℕ → View M T
settled_by v None = v
settled_by v (Some draw) = settled v draw (entry_with draw v.known.posted)

abbrev pub renewed : {M T : Type 0} → View M T → View M T
renewed v = settled_by (merging v) v.on_its_way

-- the master's row goes to its book list
abbrev pub entries_of : ℕ → List Row → List Posted
entries_of version hand = map (λ (r : Row). record { worker = r.worker; draw = r.draw; version = version }) hand

abbrev pub noted_in : {M T : Type 0} → Known M T → List T → ℕ → List Row → Known M T
noted_in k more version hand = record k { versions = k.versions ++ more; posted = k.posted ++ entries_of version hand }

abbrev pub posting : {M T : Type 0} → View M T → List T → ℕ → View M T
posting v more version = record v { known = noted_in v.known more version v.hand; beside = noted_in v.known more version v.hand; hand = [] }

-- in a post without a new version, by a load that found the newest version
abbrev pub booked : {M T : Type 0} → View M T → ℕ → View M T
booked v version = posting v [] version

-- ---- add 1 to word 0: in a post with a new version

abbrev pub announced : {M T : Type 0} → View M T → T → View M T
announced v table = posting v (table ∷ []) (length v.known.versions)

-- ---- add 1 to word 1: a draw

abbrev pub worker_of : Role → ℕ
worker_of (Pass w) = w
worker_of Master = 0
worker_of Note = 0
worker_of Spent = 0

abbrev pub drawn : {M T : Type 0} → View M T → ℕ → View M T
drawn v draw = record v { hand = record { worker = worker_of v.role; draw = draw; floor = v.floor } ∷ v.hand }

-- ---- split a note

-- a note with a hand
abbrev pub note_of : {M T : Type 0} → View M T → List Row → View M T
note_of v hand = record {
  role = Note;
  known = v.known;
  beside = v.known;
  reach = v.reach;
  hand = hand;
  loaded = [];
  floor = 0;
  on_its_way = None;
  posts = [];
  absent = [];
}

abbrev pub first_draw : List Row → Option ℕ
first_draw [] = None
first_draw (r ∷ rs) = Some r.draw

-- in a post the note takes the pass's row, whose draw is then on its way
abbrev pub sending : {M T : Type 0} → View M T → View M T
sending v = record v { hand = []; on_its_way = first_draw v.hand }

-- where the book refused, a note takes the row out of the master's hand
abbrev pub giving_back : {M T : Type 0} → View M T → View M T
giving_back v = record v { hand = [] }

-- ---- join a note, or a pass

-- what is still on its way, once these rows came
abbrev pub way_with : List Row → Option ℕ → Option ℕ
way_with [] way = way
way_with (r ∷ rs) way = None

-- who is without a pass, once a seat was joined
abbrev pub absent_with : Role → List ℕ → List ℕ
absent_with (Pass w) absent = w ∷ absent
absent_with Master absent = absent
absent_with Note absent = absent
absent_with Spent absent = absent

abbrev pub joined : {M T : Type 0} → View M T → View M T → View M T
joined v w = record v {
  beside = w.known;
  reach = max v.reach w.reach;
  hand = v.hand ++ w.hand;
  on_its_way = way_with w.hand v.on_its_way;
  absent = absent_with w.role v.absent;
}

-- the seat that was joined
abbrev pub spent : {M T : Type 0} → View M T
spent = record {
  role = Spent;
  known = record { opening = None; versions = []; posted = [] };
  beside = record { opening = None; versions = []; posted = [] };
  reach = 0;
  hand = [];
  loaded = [];
  floor = 0;
  on_its_way = None;
  posts = [];
  absent = [];
}
