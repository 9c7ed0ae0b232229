use Rattle.std.proofs.Common.{◌≡◌, ◌<◌, ◌∙◌, IfSome, option_map, length, true, false, ap, sym, subst}
use Rattle.ld_roles.specs.Changes.{persons_before}
use Rattle.ld_roles.specs.Kept.{IsAsSaved, persons_of}
use Rattle.ld_roles.specs.Persons.{changed_at, holds_role}
use Rattle.ld_roles.specs.Seats.{with_held}
use Rattle.ld_roles.specs.declared.change.Change.TheVariants.{Took}
use Rattle.ld_roles.proofs.Savepoints.{held_to_drop, noted_keeps, noted_undoable, still_there}
use Rattle.ld_roles.proofs.People.{changed_back}
use Rattle.ld_roles.proofs.roster.Roster.drop_role.Goals as goal

pub invariant_of-self : goal.invariant_of-self
invariant_of-self c =
    let s = c.self.inside in
    let p = c.args.person.0 in
    let role = c.args.role.0 in
    let person : p < length s.seats.rows = rw (ap (λ roster. roster.rows) (sym c.self.view_is)) at c.requires.person in
    let within : role < length s.seats.roles = rw (ap (λ roster. roster.roles) (sym c.self.view_is)) at c.requires.role in
    rw c.and-self-inside.ensures (noted_undoable c.set.new.self s.since (Took p role) (still_there s.seats c.set.new.self p role (with_held role false) c.set.ensures.rows c.set.ensures.roles person within))

pub returns-clause-kept : goal.returns-clause-kept
returns-clause-kept c =
    let s = c.self.inside in
    let p = c.args.person.0 in
    let role = c.args.role.0 in
    let person : p < length s.seats.rows = rw (ap (λ roster. roster.rows) (sym c.self.view_is)) at c.requires.person in
    let held : holds_role (persons_of s.seats.rows) role p ≡ true = ap (λ roster. holds_role (persons_of roster.rows) role p) c.self.view_is ∙ held_to_drop c.args.self.now.roles (persons_of c.args.self.now.rows) role p c.args.started c.in_ok-may_drop.ensures.refused in
    let back : changed_at (with_held role true) p c.set.new.self.rows ≡ s.seats.rows = ap (changed_at (with_held role true) p) c.set.ensures.rows ∙ changed_back s.seats.rows p role true false person held in
    let marked : IfSome (option_map (λ each. persons_before each s.seats.rows) s.since) (λ kept. kept ≡ s.seats.rows) = subst IsAsSaved (sym c.self.view_is) c.requires.saved in
    rw c.and-self-inside.ensures (noted_keeps s.since (Took p role) s.seats.rows c.set.new.self.rows back marked) ∙ ap (λ roster. roster.kept) c.self.view_is
