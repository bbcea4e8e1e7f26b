-- The law of entry lines: reading undoes the line of an entry, and reads nothing else.
use Rattle.std.proofs.Common.{◌≡◌, ℕ, ◌^◌, ◌<◌, true, List, ◌++◌, ◌∙◌, Option, Some, None, map, codes, refl, sym, ap, append_assoc, eq-eqb}
use Rattle.std.specs.Prelude.{option_and_then, option_map, unwrap_or, ◌↔◌}
use Rattle.std.specs.Fmt.{decimal}
use Rattle.std.specs.List.{AllByRecursion}
use Rattle.cv_base.specs.EndText.{end_text}
use Rattle.cv_base.specs.InvariantText.{list_text}
use Rattle.cv_base.specs.Text.{address_text}
use Rattle.cv_base.specs.declared.ends.End.{End}
use Rattle.cv_base.specs.declared.entries.Adopted.{Adopted}
use Rattle.cv_base.specs.declared.entries.Entry.{Entry}
use Rattle.cv_base.specs.declared.entries.FiredRow.{FiredRow}
use Rattle.cv_base.specs.declared.entries.TallyRow.{TallyRow}
use Rattle.cv_base.specs.declared.plan.Mode.{Mode}
use Rattle.cv_histories.specs.Report.{entry_line}
use Rattle.cv_histories.specs.Texts.{adopted_text, fired_text, mode_text, tally_text}
use Rattle.cv_runs.specs.PlainText.{bytes_text}
use Rattle.cv_journal.specs.EntryReading.{ValuesOf, adopted_in, end_in, entry_in, entry_of, entry_with, fired_in, is_number, mode_in, tally_in, values_in}
use Rattle.cv_journal.specs.LineOf.{IsAdopted, IsEntry, IsFired, IsLineOf, IsTally, IsWord}
use Rattle.cv_journal.specs.Reading.{address_in, bytes_in, cut, list_in, number_in}
use Rattle.cv_journal.proofs.HexLaw.{address_lacks, address_reads, bytes_lack, bytes_reads}
use Rattle.cv_journal.proofs.NumberLaw.{number_lacks, number_reads}
use Rattle.cv_journal.proofs.ReadBack.{Reads, and_then_back, is_number_so, list_lacks, list_reads, where_back}
use Rattle.cv_journal.proofs.RowLaw.{adopted_lacks, adopted_reads, end_lacks_blank, end_reads, fired_lacks, fired_reads, held_lacks, mode_lacks_blank, mode_reads, tally_lacks, tally_reads}
use Rattle.cv_journal.proofs.ValuesLaw.{HasNoBlanks, joined, values_back, values_forth}

-- ---- lists of an entry

no_adopted : adopted_in (codes "-") ≡ None
unfolding adopted_in cut
no_adopted = refl

all_adopted : Reads (AllByRecursion IsAdopted) (λ xs. list_text (map adopted_text xs)) (list_in adopted_in)
all_adopted = list_reads adopted_reads (adopted_lacks 44 refl refl) no_adopted

no_site : address_in (codes "-") ≡ None
unfolding address_in
no_site = refl

all_sites : Reads (AllByRecursion IsWord) (λ xs. list_text (map address_text xs)) (list_in address_in)
all_sites = list_reads address_reads (address_lacks 44 refl) no_site

no_tally : tally_in (codes "-") ≡ None
unfolding tally_in cut
no_tally = refl

all_tallies : Reads (AllByRecursion IsTally) (λ xs. list_text (map tally_text xs)) (list_in tally_in)
all_tallies = list_reads tally_reads (tally_lacks 44 refl refl refl (held_lacks 44 refl refl)) no_tally

no_fired : fired_in (codes "-") ≡ None
unfolding fired_in cut
no_fired = refl

all_fired : Reads (AllByRecursion IsFired) (λ xs. list_text (map fired_text xs)) (list_in fired_in)
all_fired = list_reads fired_reads (fired_lacks 44 refl refl refl) no_fired

-- ---- the values of an entry's line

texts : ℕ → Entry → ValuesOf
texts n e = record {
  number = decimal n;
  run = decimal e.run;
  worker = decimal e.worker;
  mode = mode_text e.mode;
  adopted = list_text (map adopted_text e.adopted);
  end = end_text e.end;
  turns = decimal e.turns;
  sites = list_text (map address_text e.sites);
  output = bytes_text e.output;
  tally = list_text (map tally_text e.tally);
  fired = list_text (map fired_text e.fired);
}

line_joined : (n r w m a e t s o y f : List ℕ) → codes "entry " ++ n ++ codes " run " ++ r ++ codes " worker " ++ w ++ codes " mode " ++ m ++ codes " adopted " ++ a ++ codes " end " ++ e
    ++ codes " turns " ++ t ++ codes " sites " ++ s ++ codes " output " ++ o ++ codes " tally " ++ y ++ codes " fired " ++ f
    ≡ joined (record { number = n; run = r; worker = w; mode = m; adopted = a; end = e; turns = t; sites = s; output = o; tally = y; fired = f })
line_joined n r w m a e t s o y f = simp append_assoc

line_is : (n : ℕ) (e : Entry) → entry_line n e ≡ joined (texts n e)
unfolding texts
line_is n e =
    line_joined (decimal n) (decimal e.run) (decimal e.worker) (mode_text e.mode) (list_text (map adopted_text e.adopted)) (end_text e.end) (decimal e.turns) (list_text (map address_text e.sites)) (bytes_text e.output) (list_text (map tally_text e.tally)) (list_text (map fired_text e.fired))

texts_plain : (n : ℕ) (e : Entry) → IsWord n → IsEntry e → HasNoBlanks (texts n e)
unfolding texts
texts_plain n e small fit = record {
  number = number_lacks 32 refl n small;
  run = number_lacks 32 refl e.run fit.run;
  worker = number_lacks 32 refl e.worker fit.worker;
  mode = mode_lacks_blank e.mode;
  adopted = list_lacks IsAdopted adopted_text 32 refl refl (adopted_lacks 32 refl refl) e.adopted fit.adopted;
  end = end_lacks_blank e.end fit.end;
  turns = number_lacks 32 refl e.turns fit.turns;
  sites = list_lacks IsWord address_text 32 refl refl (address_lacks 32 refl) e.sites fit.sites;
  output = bytes_lack 32 refl refl e.output fit.output;
  tally = list_lacks IsTally tally_text 32 refl refl (tally_lacks 32 refl refl refl (held_lacks 32 refl refl)) e.tally fit.tally;
}

-- ---- from the values to the entry, and back

record FieldsAre (run worker : Option ℕ) (mode : Option Mode) (end : Option End) (turns : Option ℕ) (adopted : Option (List Adopted)) (sites output : Option (List ℕ)) (tally : Option (List TallyRow)) (fired : Option (List FiredRow)) (e : Entry) : Type 0 where
  run_is : run ≡ Some e.run
  worker_is : worker ≡ Some e.worker
  mode_is : mode ≡ Some e.mode
  adopted_is : adopted ≡ Some e.adopted
  end_is : end ≡ Some e.end
  turns_is : turns ≡ Some e.turns
  sites_is : sites ≡ Some e.sites
  output_is : output ≡ Some e.output
  tally_is : tally ≡ Some e.tally
  fired_is : fired ≡ Some e.fired

fields_are : (run worker : Option ℕ) (mode : Option Mode) (end : Option End) (turns : Option ℕ) (adopted : Option (List Adopted)) (sites output : Option (List ℕ)) (tally : Option (List TallyRow)) (fired : Option (List FiredRow)) (e : Entry)
    → entry_with run worker mode end turns adopted sites output tally fired ≡ Some e → FieldsAre run worker mode end turns adopted sites output tally fired e
fields_are (Some run) (Some worker) (Some mode) (Some end) (Some turns) (Some adopted) (Some sites) (Some output) (Some tally) (Some fired) e h = record {
  run_is = ap (option_map (λ (x : Entry). x.run)) h;
  worker_is = ap (option_map (λ (x : Entry). x.worker)) h;
  mode_is = ap (option_map (λ (x : Entry). x.mode)) h;
  adopted_is = ap (option_map (λ (x : Entry). x.adopted)) h;
  end_is = ap (option_map (λ (x : Entry). x.end)) h;
  turns_is = ap (option_map (λ (x : Entry). x.turns)) h;
  sites_is = ap (option_map (λ (x : Entry). x.sites)) h;
  output_is = ap (option_map (λ (x : Entry). x.output)) h;
  tally_is = ap (option_map (λ (x : Entry). x.tally)) h;
  fired_is = ap (option_map (λ (x : Entry). x.fired)) h;
}
fields_are _ _ _ _ _ _ _ _ _ _ e h = absurd (cc)

entry_of_back : (n : ℕ) (v : ValuesOf) (e : Entry) → entry_of n v ≡ Some e → IsEntry e × (v ≡ texts n e)
unfolding entry_of texts
entry_of_back n v e h =
    let got = where_back (is_number n (number_in v.number)) (entry_with (number_in v.run) (number_in v.worker) (mode_in v.mode) (end_in v.end) (number_in v.turns) (list_in adopted_in v.adopted) (list_in address_in v.sites) (bytes_in v.output) (list_in tally_in v.tally) (list_in fired_in v.fired)) e h in
    let number = number_reads.back v.number n (is_number_so n (number_in v.number) got.0) in
    let fields = fields_are _ _ _ _ _ _ _ _ _ _ e got.1 in
    let run = number_reads.back v.run e.run fields.run_is in
    let worker = number_reads.back v.worker e.worker fields.worker_is in
    let mode = mode_reads.back v.mode e.mode fields.mode_is in
    let adopted = all_adopted.back v.adopted e.adopted fields.adopted_is in
    let end = end_reads.back v.end e.end fields.end_is in
    let turns = number_reads.back v.turns e.turns fields.turns_is in
    let sites = all_sites.back v.sites e.sites fields.sites_is in
    let output = bytes_reads.back v.output e.output fields.output_is in
    let tally = all_tallies.back v.tally e.tally fields.tally_is in
    let fired = all_fired.back v.fired e.fired fields.fired_is in (
      record { run = run.0; worker = worker.0; adopted = adopted.0; end = end.0; turns = turns.0; sites = sites.0; output = output.0; tally = tally.0; fired = fired.0 },
      λ i. record { number = number.1 i; run = run.1 i; worker = worker.1 i; mode = mode.1 i; adopted = adopted.1 i; end = end.1 i; turns = turns.1 i; sites = sites.1 i; output = output.1 i; tally = tally.1 i; fired = fired.1 i },
    )

number_so : (n : ℕ) (o : Option ℕ) → o ≡ Some n → is_number n o ≡ true
number_so n o is = ap (is_number n) is ∙ eq-eqb n n refl

entry_of_forth : (n : ℕ) (e : Entry) → IsWord n → IsEntry e → entry_of n (texts n e) ≡ Some e
unfolding entry_of texts
entry_of_forth n e small fit =
    rw (number_so n _ (number_reads.forth n small), number_reads.forth e.run fit.run, number_reads.forth e.worker fit.worker, mode_reads.forth e.mode tt, all_adopted.forth e.adopted fit.adopted, end_reads.forth e.end fit.end, number_reads.forth e.turns fit.turns, all_sites.forth e.sites fit.sites, bytes_reads.forth e.output fit.output, all_tallies.forth e.tally fit.tally, all_fired.forth e.fired fit.fired) refl

entry_back : (n : ℕ) (s : List ℕ) (e : Entry) → entry_in n s ≡ Some e → IsLineOf n s e
unfolding entry_in
entry_back n s e h =
    let found = and_then_back (entry_of n) (values_in s) e h in
    let got = entry_of_back n found.0 e found.1.1 in
    (got.0, values_back s found.0 found.1.0 ∙ ap joined got.1 ∙ sym (line_is n e))

entry_forth : (n : ℕ) (s : List ℕ) (e : Entry) → IsWord n → IsLineOf n s e → entry_in n s ≡ Some e
unfolding entry_in
entry_forth n s e small is =
    ap (λ l. option_and_then (entry_of n) (values_in l)) (is.1 ∙ line_is n e)
    ∙ ap (option_and_then (entry_of n)) (values_forth (texts n e) (texts_plain n e small is.0))
    ∙ entry_of_forth n e small is.0

pub read_exactly : (n : ℕ) → n < 2 ^ 32 → (s : List ℕ) (e : Entry) → (entry_in n s ≡ Some e) ↔ IsLineOf n s e
read_exactly n small s e = (entry_back n s e, entry_forth n s e small)

pub one_entry : (n : ℕ) → n < 2 ^ 32 → (s : List ℕ) (e f : Entry) → IsLineOf n s e → IsLineOf n s f → e ≡ f
one_entry n small s e f one other = ap (λ o. unwrap_or o f) (sym (entry_forth n s e small one) ∙ entry_forth n s f small other)
