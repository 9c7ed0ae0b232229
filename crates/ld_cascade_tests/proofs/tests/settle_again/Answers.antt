use Rattle.std.specs.List.{each_same}
use Rattle.std.proofs.Common.{◌≡◌, sym, ◌∙◌, subst}
use Rattle.ld_cascade.specs.Wiring.{LinksFollow, Wiring}
use Rattle.ld_cascade_tests.specs.Lamps.{lamps_of}
use Rattle.ld_cascade_tests.specs.Row.{Row}
use Rattle.ld_cascade_tests.specs.Settled.{AreSettled}
use Rattle.ld_cascade_tests.proofs.Rows.{rows_same, settled_begun}
use Rattle.ld_cascade_tests.proofs.tests.settle_again.Goals as goal

pub make_right-requires : goal.make_right-requires
make_right-requires g c =
    let s = lamps_of c.settle.new.sites in
    let settled = c.in_ok-_settled.ensures in
    let begin = c.begin.ensures in
    let lit : c.take_back.new.self.lit.items ≡ c.settle.new.sites.lit.items =
    c.take_back.ensures.lit ∙ each_same c.settle.new.sites.lit.items c.in_ok-lit.lit.items c.in_ok-lit.ensures.cases.0 in
    let marks : c.take_back.new.self.marks.items ≡ c.settle.new.sites.marks.items =
    c.take_back.ensures.marks ∙ each_same c.settle.new.sites.marks.items c.in_ok-marks.marks.items c.in_ok-marks.ensures.cases.0 in
    let same : lamps_of c.take_back.new.self ≡ s = rows_same (lamps_of c.take_back.new.self) s lit marks in
    let links : AreSettled s c.settle.new.links = record { tidy = settled.tidy; none = settled.none; covers = settled.covers } in
    record {
      begun =
          subst (λ (u : Row). (begun : Wiring) × AreSettled u begun × LinksFollow begun c.switch_last_off.new.links) (sym same)
          (c.begin.new.self, settled_begun links begin.edges begin.dirty begin.sites, c.switch_last_off.ensures.follows);
    }
