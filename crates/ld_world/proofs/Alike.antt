-- That two properties declare alike exactly where the store declares them alike.
use Rattle.std.proofs.Common.{◌≡◌, Option, None, Some, Bool, true, false, ◌&&◌, nat_eq, refl, sym, ap, true≢false}
use Rattle.std.proofs.lemmas.Bool.{and_parts, and_from}
use Rattle.std.proofs.lemmas.Bool.Decides.{Decides-eqb, Decides-int_eq}
use Rattle.std.proofs.lemmas.Slice.Eq.{bytes_eq-Decides, slice_eq-Decides}
use Rattle.std.specs.Bool.{Decides}
use Rattle.std.specs.Cmp.Lexicographic.{pointwise}
use Rattle.std.specs.Option.{option_eq}
use Rattle.ld_value.specs.Datum.{Datum, text_datum, truth_datum, number_datum, moment_datum, span_datum, same_datum, same_truth}
use Rattle.ld_value.specs.Values.{Restrictions}
use Rattle.ld_value.specs.declared.kind.Kind.{Kind}
use Rattle.ld_value.specs.declared.kind.Kind.TheVariants.{String, Text, Uri, Boolean, Integer, Datetime, Duration}
use Rattle.ld_model.specs.Properties.{initial_of, limits_by, is_personal}
use Rattle.ld_model.specs.declared.property.Property.{Property}
use Rattle.ld_model.specs.declared.property.PropertyKind.{PropertyKind}
use Rattle.ld_model.specs.declared.property.PropertyKind.TheVariants as kind
use Rattle.ld_globals.specs.declared.declared.GlobalKind.{GlobalKind}
use Rattle.ld_globals.specs.declared.declared.GlobalKind.TheVariants.{Glob, GlobPers}
use Rattle.ld_sharing.specs.StoreView.{declaration_by, kind_declared}
use Rattle.ld_world.specs.Published.{same_datatype, same_declaration, same_limits}

-- ---- values

one_truth : (a b : Bool) → Decides (same_truth a b) (a ≡ b)
one_truth true true = (λ _. refl, λ _. refl)
one_truth true false = (λ is. sym is, λ is. sym is)
one_truth false true = (λ is. absurd (true≢false (sym is)), λ is. is)
one_truth false false = (λ _. refl, λ _. refl)

one_datum : (a b : Datum) → Decides (same_datum a b) (a ≡ b)
one_datum (text_datum a) (text_datum b) = (λ is. ap text_datum ((bytes_eq-Decides a b).0 is), λ is. (bytes_eq-Decides a b).1 cc)
one_datum (truth_datum a) (truth_datum b) = (λ is. ap truth_datum ((one_truth a b).0 is), λ is. (one_truth a b).1 cc)
one_datum (number_datum a) (number_datum b) = (λ is. ap number_datum ((Decides-int_eq a b).0 is), λ is. (Decides-int_eq a b).1 cc)
one_datum (moment_datum a) (moment_datum b) = (λ is. ap moment_datum ((Decides-int_eq a b).0 is), λ is. (Decides-int_eq a b).1 cc)
one_datum (span_datum a) (span_datum b) = (λ is. ap span_datum ((Decides-eqb a b).0 is), λ is. (Decides-eqb a b).1 cc)
one_datum _ _ = (λ is. cc, λ is. cc)

one_datatype : (a b : Kind) → Decides (same_datatype a b) (a ≡ b)
one_datatype String String = (λ _. refl, λ _. refl)
one_datatype Text Text = (λ _. refl, λ _. refl)
one_datatype Uri Uri = (λ _. refl, λ _. refl)
one_datatype Boolean Boolean = (λ _. refl, λ _. refl)
one_datatype Integer Integer = (λ _. refl, λ _. refl)
one_datatype Datetime Datetime = (λ _. refl, λ _. refl)
one_datatype Duration Duration = (λ _. refl, λ _. refl)
one_datatype _ _ = (λ is. cc, λ is. cc)

-- ---- values that may be absent

one_option : {A : Type 0} (same : A → A → Bool) → ((x y : A) → Decides (same x y) (x ≡ y)) → (a b : Option A)
    → Decides (option_eq same a b) (a ≡ b)
one_option same one None None = (λ _. refl, λ _. refl)
one_option same one None (Some y) = (λ is. cc, λ is. cc)
one_option same one (Some x) None = (λ is. cc, λ is. cc)
one_option same one (Some x) (Some y) = (λ is. ap Some ((one x y).0 is), λ is. (one x y).1 cc)

pub one_value : (a b : Option Datum) → Decides (option_eq same_datum a b) (a ≡ b)
one_value = one_option same_datum one_datum

both : {a b : Bool} {P Q : Type 0} → Decides a P → Decides b Q → Decides (a && b) (P × Q)
both {a} {b} first second = (
  λ is. let parts = and_parts a b is in (first.0 parts.0, second.0 parts.1),
  λ holds. and_from a b (first.1 holds.0) (second.1 holds.1),
)

like : {a : Bool} {P Q : Type 0} → (P → Q) → (Q → P) → Decides a P → Decides a Q
like to from decides = (λ is. to (decides.0 is), λ holds. decides.1 (from holds))

-- ---- restrictions, kinds and declarations

one_restriction : (a b : Restrictions) → Decides (same_limits a b) (a ≡ b)
one_restriction a b =
    like
    (λ same i. record { least = same.0 i; most = same.1.0 i; min_length = same.1.1.0 i; max_length = same.1.1.1.0 i; one_of = same.1.1.1.1 i })
    (λ same. (ap (λ r. r.least) same, (ap (λ r. r.most) same, (ap (λ r. r.min_length) same, (ap (λ r. r.max_length) same, ap (λ r. r.one_of) same)))))
    (both (one_value a.least b.least) (both (one_value a.most b.most)
    (both (one_option nat_eq Decides-eqb a.min_length b.min_length) (both (one_option nat_eq Decides-eqb a.max_length b.max_length)
    (slice_eq-Decides one_datum a.one_of b.one_of (pointwise same_datum a.one_of b.one_of) refl)))))

-- The kind as a store declares it, by whether each person has a value.
abbrev kind_by : Bool → GlobalKind
kind_by true = GlobPers
kind_by false = Glob

declared_so : (k : PropertyKind) → kind_declared k ≡ kind_by (is_personal k)
declared_so kind.Loc = refl
declared_so kind.LocPers = refl
declared_so kind.LocRole = refl
declared_so kind.GlobPers = refl
declared_so kind.Glob = refl

one_kind : (a b : PropertyKind) → Decides (same_truth (is_personal a) (is_personal b)) (kind_declared a ≡ kind_declared b)
one_kind a b = rw (declared_so a, declared_so b) (by (is_personal a) (is_personal b))
  where
    by : (p q : Bool) → Decides (same_truth p q) (kind_by p ≡ kind_by q)
    by true true = (λ _. refl, λ _. refl)
    by false false = (λ _. refl, λ _. refl)
    by true false = (λ is. cc, λ is. cc)
    by false true = (λ is. cc, λ is. cc)

pub alike : (a b : Property) → Decides (same_declaration a b) (declaration_by a ≡ declaration_by b)
alike a b =
    like
    (λ same i. record { kind = same.0 i; datatype = same.1.0 i; limits = same.1.1.0 i; initial = same.1.1.1 i })
    (λ same. (ap (λ d. d.kind) same, (ap (λ d. d.datatype) same, (ap (λ d. d.limits) same, ap (λ d. d.initial) same))))
    (both (one_kind a.kind b.kind) (both (one_datatype a.datatype b.datatype)
    (both (one_restriction (limits_by a a.restrictions) (limits_by b b.restrictions))
    (one_value (initial_of a) (initial_of b)))))
