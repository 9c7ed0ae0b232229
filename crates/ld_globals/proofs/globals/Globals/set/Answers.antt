use Rattle.std.proofs.Common.{◌≡◌, ◌∙◌, sym, ap, subst, Some, ℕ, ◌+◌}
use Rattle.ld_value.specs.Datum.{datum_of}
use Rattle.ld_globals.specs.Answers.{key_given}
use Rattle.ld_globals.specs.Given.{given_text}
use Rattle.ld_globals.specs.Store.{IsWritable, Key, Store, key_at, put_in, reserve_in, spend}
use Rattle.ld_globals.proofs.Texts.{put-reserved, settable}
use Rattle.ld_globals.proofs.globals.Globals.set.Goals as goal

reserved : (store : Store) (n : ℕ) (key : Key) (value : _) → IsWritable store key value → IsWritable (reserve_in store n) key value
reserved store n key value is = record { declaration = is.declaration; declared = is.declared; suited = is.suited; fitting = is.fitting }

pub give-requires-clause-writable : goal.give-requires-clause-writable
give-requires-clause-writable c =
    let value = Some (datum_of c.in_ok-value.value) in
    let given : Key = key_given c.args.uri.now c.args.person in
    let key : key_at c.args.uri.now.bytes (given_text c.lent.result) ≡ given = ap (key_at c.args.uri.now.bytes) c.lent.ensures in
    let writable = settable c.args.self.now given c.args.text.now (datum_of c.in_ok-value.value) c.in_ok-value.ensures.ok in
    subst (λ store. IsWritable store (key_at c.args.uri.now.bytes (given_text c.lent.result)) value) (sym c.in_ok-make_room.ensures.ok) (subst (λ k. IsWritable (reserve_in c.args.self.now c.in-Some.room) k value) (sym key) (reserved c.args.self.now c.in-Some.room given value writable))

pub returns-clause-ok : goal.returns-clause-ok
returns-clause-ok c =
    let value = Some (datum_of c.in_ok-value.value) in
    let given : Key = key_given c.args.uri.now c.args.person in
    let key : key_at c.args.uri.now.bytes (given_text c.lent.result) ≡ given = ap (key_at c.args.uri.now.bytes) c.lent.ensures in
    let room : c.in-Some.room ≡ c.args.self.now.spare + 1 = c.in-Some.ensures.1 ∙ ap (λ store. store.spare + 1) c.self.view_is in
    let made = c.in_ok-make_room.ensures.ok ∙ ap (reserve_in c.args.self.now) room in
    let put : c.give.new.self ≡ spend (put_in (reserve_in c.args.self.now (c.args.self.now.spare + 1)) given value) = c.in-Ok.ensures.ok ∙ ap (λ store. spend (put_in store (key_at c.args.uri.now.bytes (given_text c.lent.result)) value)) made ∙ ap (λ k. spend (put_in (reserve_in c.args.self.now (c.args.self.now.spare + 1)) k value)) key in
    record { value = datum_of c.in_ok-value.value; answer = c.in_ok-value.ensures.ok; put = put ∙ put-reserved c.args.self.now given value }
