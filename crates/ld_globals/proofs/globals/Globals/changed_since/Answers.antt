use Rattle.std.proofs.Common.{◌≡◌, ◌≤◌, map, take, length, Contains, IsTrue, sym, ap, subst, ◌∙◌, arith}
use Rattle.std.specs.List.{AllByRecursion, IsDistinct, prefix_len}
use Rattle.ld_globals.specs.Kept.{IsFilled, is_later, key_at_slot, walk_left}
use Rattle.ld_globals.specs.Store.{bound_of, same_key, written_since}
use Rattle.ld_globals.proofs.Since.{all-filled, later, later-fewer, since-walk, taken-later, walk-once, walk-since}
use Rattle.ld_globals.proofs.globals.Globals.changed_since.Goals as goal

pub invariant_of-result : goal.invariant_of-result
invariant_of-result g c =
    let s = c.self.inside in
    let b = bound_of c.args.stamp in
    let count : c.count_since.result ≡ prefix_len (is_later b) s.recency = c.count_since.ensures.count ∙ ap (λ n. prefix_len (is_later n) s.recency) c.bound_of.ensures in
    let walk : walk_left c.iter.result ≡ s.recency = c.iter.ensures.walk in
    let front : take c.count_since.result (walk_left c.iter.result) ≡ later b s.recency = ap (take c.count_since.result) walk ∙ ap (λ n. take n s.recency) count ∙ taken-later b s.recency in
    let fewer = later-fewer b s.recency in
    let same = ap length walk in
    (omega (arith, count, fewer, same), subst (AllByRecursion (IsFilled s.declared.entries s.persons.keys s.cells.entries)) (sym front) (all-filled s.declared.entries s.persons.keys s.cells.entries c.self.invariant.0 c.self.invariant.2 c.len-count.ensures.unique s.recency c.self.invariant.4 b))

pub returns-clause-exactly : goal.returns-clause-exactly
returns-clause-exactly g c =
    let s = c.self.inside in
    let stamp = c.args.stamp in
    let b = bound_of stamp in
    let count : c.count_since.result ≡ prefix_len (is_later b) s.recency = c.count_since.ensures.count ∙ ap (λ n. prefix_len (is_later n) s.recency) c.bound_of.ensures in
    let front : take c.count_since.result (walk_left c.iter.result) ≡ later b s.recency = ap (take c.count_since.result) c.iter.ensures.walk ∙ ap (λ n. take n s.recency) count ∙ taken-later b s.recency in
    let keys = key_at_slot s.declared.entries s.persons.keys s.cells.entries in
    let room = c.self.invariant.7 in
    let inv7 : length s.cells.entries ≤ length s.recency = omega (arith, room) in
    λ key. (
      λ among. subst (λ store. IsTrue (written_since store stamp key)) c.self.view_is (walk-since s.declared.entries s.persons.keys s.cells.entries c.self.invariant.0 c.self.invariant.2 c.len-count.ensures.unique s.recency c.self.invariant.4 stamp key (subst (λ l. Contains (map keys l) key) front among)),
      λ since. subst (λ l. Contains (map keys l) key) (sym front) (since-walk s.declared.entries s.persons.keys s.cells.entries c.self.invariant.0 c.self.invariant.2 c.len-count.ensures.unique s.recency c.self.invariant.4 stamp s.stamp key c.iter.ensures.slots inv7 c.self.invariant.3 (subst (λ store. IsTrue (written_since store stamp key)) (sym c.self.view_is) since)),
    )

pub returns-clause-once : goal.returns-clause-once
returns-clause-once g c =
    let s = c.self.inside in
    let b = bound_of c.args.stamp in
    let count : c.count_since.result ≡ prefix_len (is_later b) s.recency = c.count_since.ensures.count ∙ ap (λ n. prefix_len (is_later n) s.recency) c.bound_of.ensures in
    let front : take c.count_since.result (walk_left c.iter.result) ≡ later b s.recency = ap (take c.count_since.result) c.iter.ensures.walk ∙ ap (λ n. take n s.recency) count ∙ taken-later b s.recency in
    subst (λ l. IsDistinct same_key (map (key_at_slot s.declared.entries s.persons.keys s.cells.entries) l)) (sym front) (walk-once s.declared.entries s.persons.keys s.cells.entries c.self.invariant.0 c.self.invariant.2 c.len-count.ensures.unique b s.recency c.self.invariant.4 c.iter.ensures.distinct)
