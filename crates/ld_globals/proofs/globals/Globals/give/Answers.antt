use Rattle.std.proofs.Common.{◌≡◌, ◌≤◌, ◌-◌, List, ◌∷◌, ◌++◌, map, Some, None, IfSome, true, false, option_map, refl, sym, ap, subst, ◌∙◌, arith, nat_eq}
use Rattle.std.specs.List.{AllByRecursion, position_or_len}
use Rattle.std.specs.Map.{keys_of, remove_entry}
use Rattle.std.specs.Option.{option_eq}
use Rattle.indexmap.specs.IndexMap.{insert_entry}
use Rattle.ld_value.specs.Datum.{datum_of, same_datum}
use Rattle.ld_globals.specs.Given.{given_text}
use Rattle.ld_globals.specs.Kept.{uri_and_declaration, IsCell, IsCounted, IsNumbering, IsNumberOf, IsPersonNumber, IsTied, IsUnknown, datum_in, same_number, store_of, write_of, written_of}
use Rattle.ld_globals.specs.Store.{Key, KeepsWrites, Store, Write, last_stamp, declared_at, declared_in, key_at, next_stamp, put_in, same_key, spend, value_at}
use Rattle.ld_globals.specs.declared.cell.Cell.{Cell}
use Rattle.ld_globals.specs.declared.key_number.KeyNumber.{KeyNumber}
use Rattle.ld_globals.proofs.Keeping.{keeps-put}
use Rattle.ld_globals.proofs.Recent.{all-remove}
use Rattle.ld_globals.proofs.Written.{declaring, declaration-is, new-cell, numbers-counted, put-same, put-other, written-after, cells-after, counted-after, tied-after, tied-first, value-kept}
use Rattle.ld_globals.proofs.globals.Globals.give.Goals as goal

pub returns-then-has_value-clause-ok : goal.returns-then-has_value-clause-ok
returns-then-has_value-clause-ok c =
    let s = c.self.inside in
    let key = key_at c.args.uri.now.bytes (given_text c.args.person) in
    let value = option_map datum_of c.args.value in
    let store = store_of s.declared.entries s.persons.keys s.cells.entries s.stamp s.spare in
    let known = c.person_number-known.result in
    let found = c.in-Some.ensures.some in
    let some = subst (λ p. IfSome known (IsPersonNumber s.persons.keys p)) c.id.ensures c.person_number-known.ensures.some in
    let none : known ≡ None → IsUnknown s.persons.keys (given_text c.args.person) = λ is. subst (IsUnknown s.persons.keys) c.id.ensures (c.person_number-known.ensures.none is) in
    let kept = value-kept s.declared.entries s.persons.keys s.cells.entries s.stamp s.spare c.args.uri.now.bytes (given_text c.args.person) c.in-Some.declared.now c.self.invariant.0 c.self.invariant.2 found.value c.in-Some.uri known (record { entry = (found.key, c.in-Some.declared.now); there = found.there; same = found.same }) some none in
    let same : option_eq same_datum (value_at store key) value ≡ true = ap (λ v. option_eq same_datum v value) (kept ∙ ap (datum_in c.in-Some.declared.now.initial s.cells.entries) (sym c.find_slot-slot.ensures)) ∙ sym c.has_value.ensures ∙ c.if-has_value.true in
    sym (ap spend (put-same store key value same)) ∙ ap (λ st. spend (put_in st key value)) c.self.view_is

pub unreachable-requires : goal.unreachable-requires
unreachable-requires c =
    let entry = declaring c.self.inside.declared.entries c.args.uri.now.bytes c.requires.writable.declaration (ap (λ store. declared_at store c.args.uri.now.bytes) c.self.view_is ∙ c.requires.writable.declared) in
    let bad : Some entry.0 ≡ None = sym entry.1 ∙ c.in_default.ensures.none refl in
    cc

pub touch-requires-clause-latest : goal.touch-requires-clause-latest
touch-requires-clause-latest c =
    let s = c.self.inside in
    numbers-counted s.cells.entries s.stamp c.next_number-number.result c.next_number-number.ensures.more c.self.invariant.3 s.recency c.self.invariant.4

pub invariant_of-self-2 : goal.invariant_of-self-2
invariant_of-self-2 c =
    let s = c.self.inside in
    let declared = s.declared.entries in
    let persons = s.persons.keys in
    let cells = s.cells.entries in
    let now = c.number_person.new.persons.keys in
    let added = c.number_person.ensures.keeps.0 in
    let is : now ≡ persons ++ added = c.number_person.ensures.keeps.1 in
    let key = key_at c.args.uri.now.bytes (given_text c.args.person) in
    let k : KeyNumber = record { uri = c.in-Some.uri; person = c.in_ok-person.person } in
    let cell : Cell = record { value = c.args.value; number = c.next_number-number.result } in
    let d = c.requires.writable.declaration in
    let at : declared_in (map uri_and_declaration declared) c.args.uri.now.bytes ≡ Some d = ap (λ store. declared_at store c.args.uri.now.bytes) c.self.view_is ∙ c.requires.writable.declared in
    let number : IsNumberOf declared now key k = record { uri = record { entry = (c.in-Some.ensures.some.key, c.in-Some.declared.now); there = c.in-Some.ensures.some.there; same = c.in-Some.ensures.some.same }; person = c.in_ok-person.ensures.number } in
    let declares = declaration-is declared c.args.uri.now.bytes d c.in-Some.declared.now at c.in-Some.ensures.some.value in
    let new = new-cell declared now key k number cell d declares c.requires.writable.suited c.requires.writable.fitting in
    let next = c.next_number-number.ensures in
    let slot = c.write_cell-slot.ensures.slot in
    let entries = c.write_cell-slot.ensures.entries in
    let all-cells = cells-after declared persons added cells key k cell c.self.invariant.2 (subst (λ ps. IsCell declared ps (k, cell)) is new) in
    let counted = counted-after declared persons added cells key k cell s.stamp c.next_number-number.result next.more (next.some, omega arith) c.self.invariant.3 in
    let tied = tied-after declared persons added cells key k cell (remove_entry (nat_eq (position_or_len (same_number k) (keys_of cells))) s.recency) (all-remove (nat_eq (position_or_len (same_number k) (keys_of cells))) (IsTied cells) s.recency c.self.invariant.4) (subst (λ n. AllByRecursion (λ e. nat_eq n e.0 ≡ false) (remove_entry (nat_eq n) s.recency)) slot c.touch.ensures.others) in
    let first = tied-first declared persons added cells key k cell in
    let spare = c.requires.spare in
    let view = ap (λ st. st.spare) c.self.view_is in
    let persons-spare = c.number_person.ensures.spare in
    let cells-spare = c.write_cell-slot.ensures.spare in
    let inv5 = c.self.invariant.5 in
    let inv6 = c.self.invariant.6 in
    let inv7 = c.self.invariant.7 in
    let count = c.write_cell-slot.ensures.count in
    let slots = c.touch.ensures.count in
    ((c.self.invariant.0.0, c.number_person.ensures.unique c.self.invariant.0.1), c.self.invariant.1, subst (λ ps. AllByRecursion (IsCell declared ps) c.write_cell-slot.new.cells.entries) (sym is) (subst (AllByRecursion (IsCell declared (persons ++ added))) (sym entries) all-cells), subst (AllByRecursion (IsCounted c.next_number-number.result)) (sym entries) counted, subst (λ es. AllByRecursion (IsTied es) c.touch.new.self) (sym entries) (subst (AllByRecursion (IsTied (insert_entry same_number cells k cell))) (sym (c.touch.ensures.slots ∙ ap (λ n. (n, c.next_number-number.result) ∷ remove_entry (nat_eq n) s.recency) slot)) (first, tied)), omega (arith, inv5, persons-spare), omega (arith, inv6, cells-spare), omega (arith, inv7, count, slots, spare, view))

pub returns-clause-ok : goal.returns-clause-ok
returns-clause-ok c =
    let s = c.self.inside in
    let declared = s.declared.entries in
    let persons = s.persons.keys in
    let cells = s.cells.entries in
    let now = c.number_person.new.persons.keys in
    let added = c.number_person.ensures.keeps.0 in
    let is : now ≡ persons ++ added = c.number_person.ensures.keeps.1 in
    let key = key_at c.args.uri.now.bytes (given_text c.args.person) in
    let value = option_map datum_of c.args.value in
    let k : KeyNumber = record { uri = c.in-Some.uri; person = c.in_ok-person.person } in
    let cell : Cell = record { value = c.args.value; number = c.next_number-number.result } in
    let number : IsNumberOf declared now key k = record { uri = record { entry = (c.in-Some.ensures.some.key, c.in-Some.declared.now); there = c.in-Some.ensures.some.there; same = c.in-Some.ensures.some.same }; person = c.in_ok-person.ensures.number } in
    let distinct : IsNumbering declared now = (c.self.invariant.0.0, c.number_person.ensures.unique c.self.invariant.0.1) in
    let after = written-after declared persons added cells key k cell (subst (IsNumbering declared) is distinct) (subst (λ ps. IsNumberOf declared ps key k) is number) c.self.invariant.2 in
    let written : map (written_of declared now) c.write_cell-slot.new.cells.entries ≡ insert_entry same_key (map (written_of declared persons) cells) key (write_of cell) = subst (λ ps. map (written_of declared ps) c.write_cell-slot.new.cells.entries ≡ insert_entry same_key (map (written_of declared persons) cells) key (write_of cell)) (sym is) (ap (map (written_of declared (persons ++ added))) c.write_cell-slot.ensures.entries ∙ after) in
    let next : c.next_number-number.result ≡ next_stamp s.stamp = c.next_number-number.ensures.next in
    let store = store_of declared persons cells s.stamp s.spare in
    let known = c.person_number-known.result in
    let found = c.in-Some.ensures.some in
    let some = subst (λ p. IfSome known (IsPersonNumber s.persons.keys p)) c.id.ensures c.person_number-known.ensures.some in
    let none : known ≡ None → IsUnknown s.persons.keys (given_text c.args.person) = λ is. subst (IsUnknown s.persons.keys) c.id.ensures (c.person_number-known.ensures.none is) in
    let kept = value-kept s.declared.entries s.persons.keys s.cells.entries s.stamp s.spare c.args.uri.now.bytes (given_text c.args.person) c.in-Some.declared.now c.self.invariant.0 c.self.invariant.2 found.value c.in-Some.uri known (record { entry = (found.key, c.in-Some.declared.now); there = found.there; same = found.same }) some none in
    let other : option_eq same_datum (value_at store key) value ≡ false = ap (λ v. option_eq same_datum v value) (kept ∙ ap (datum_in c.in-Some.declared.now.initial s.cells.entries) (sym c.find_slot-slot.ensures)) ∙ sym c.has_value.ensures ∙ c.if-has_value.false in
    let made : spend (put_in store key value) ≡ spend (put_in c.args.self.now key value) = ap (λ st. spend (put_in st key value)) c.self.view_is in
    let put = put-other store key value other in
    let stored : List (Key × Write) = insert_entry same_key (map (written_of declared persons) cells) key (record { value = value; number = next_stamp s.stamp }) in
    let numbered : map (written_of declared now) c.write_cell-slot.new.cells.entries ≡ stored = written ∙ ap (λ n. insert_entry same_key (map (written_of declared persons) cells) key (record { value = value; number = n })) next in
    (λ i. record { declared = map uri_and_declaration declared; written = numbered i; stamp = next i; spare = s.spare - 1 }) ∙ sym (ap spend put) ∙ made

spent : (old new : Store) → KeepsWrites old new → KeepsWrites old (spend new)
spent old new keeps = record { stamp = keeps.stamp; written = keeps.written; changed = keeps.changed }

pub returns-clause-kept : goal.returns-clause-kept
returns-clause-kept c =
    let key = key_at c.args.uri.now.bytes (given_text c.args.person) in
    let value = option_map datum_of c.args.value in
    subst (KeepsWrites c.args.self.now) (sym (returns-clause-ok c)) (spent c.args.self.now (put_in c.args.self.now key value) (keeps-put c.args.self.now key value (subst (λ store. store.stamp ≤ last_stamp) c.self.view_is c.next_number-number.ensures.most)))
