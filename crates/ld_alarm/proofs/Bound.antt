-- How many steps are taken from switch to switch.
use Rattle.std.proofs.Common.{◌≡◌, ap, ℕ, ◌+◌, ◌*◌, ◌-◌, ◌<◌, ◌≤◌, arith}
use Rattle.std.proofs.lemmas.Nat.{mul-le}

-- This many steps were taken since the start, where this many switches are left of as many as there are; a rule asks to look
-- at this many cells. From one switch to the next it takes at most twice that, and for each two switches one step less.
pub record IsWithin (steps start size switches left : ℕ) : Type 0 where
  pub few : switches ≤ 2 * size
  pub some : left ≤ switches
  pub cost : 2 * steps + (4 * size - switches) * left ≤ 2 * start + 2 * size + (4 * size - switches) * switches

-- ---- products

less_product : (k a b : ℕ) → a ≤ b → k * a ≤ k * b
less_product k a b h = mul-le k a k b (omega arith) h

one_product : (k a b : ℕ) → b < a → k * b + k ≤ k * a
one_product k a b h =
    let more : k * (b + 1) ≤ k * a = mul-le k (b + 1) k a (omega arith) (omega (arith, h)) in
    omega (arith, more)

square : (n d : ℕ) → (n + 2 * d) * n ≤ (n + d) * (n + d)
square n d = omega arith

all_switches : (size switches : ℕ) → switches ≤ 2 * size → (4 * size - switches) * switches ≤ 4 * (size * size)
all_switches size switches few =
    let d = 2 * size - switches in
    let by : 4 * size - switches ≡ switches + 2 * d = omega (arith, few) in
    let whole : switches + d ≡ 2 * size = omega (arith, few) in
    let one : (4 * size - switches) * switches ≡ (switches + 2 * d) * switches = ap (λ k. k * switches) by in
    let two : (switches + d) * (switches + d) ≡ (2 * size) * (2 * size) = ap (λ k. k * k) whole in
    omega (arith, one, two, square switches d)

-- ---- from switch to switch

-- At first.
pub within_begins : (steps start size switches left : ℕ) → switches ≤ 2 * size → left ≤ switches → steps ≤ start + size
    → IsWithin steps start size switches left
within_begins steps start size switches left few some cost = record {
  few = few;
  some = some;
  cost = omega (arith, cost, less_product (4 * size - switches) left switches some);
}

-- One switch on: the switch was looked for, and the test was asked.
pub within_goes_on : (steps start size switches left sought asked fewer : ℕ) → IsWithin steps start size switches left
    → 2 * sought + switches ≤ 2 * steps + 2 * size → asked ≤ sought + size → fewer < left
    → IsWithin asked start size switches fewer
within_goes_on steps start size switches left sought asked fewer within seeks asks falls =
    let few = within.few in
    let some = within.some in
    let cost = within.cost in
    record {
      few = few;
      some = omega (arith, some, falls);
      cost = omega (arith, cost, few, seeks, asks, one_product (4 * size - switches) left fewer falls);
    }

-- All in all, where no switch was found.
pub within_ends : (steps start size switches left last : ℕ) → IsWithin steps start size switches left
    → 2 * last + switches ≤ 2 * steps + 2 * size → last ≤ start + 2 * (size * (size + 1))
within_ends steps start size switches left last within more =
    let few = within.few in
    let cost = within.cost in
    omega (arith, cost, more, all_switches size switches few)

-- And where one was found, at which the test was another.
pub within_finds : (steps start size switches left sought asked fewer : ℕ) → IsWithin steps start size switches left → fewer < left
    → 2 * sought + switches ≤ 2 * steps + 2 * size → asked ≤ sought + size → asked ≤ start + 2 * (size * (size + 1))
within_finds steps start size switches left sought asked fewer within falls seeks asks =
    let few = within.few in
    let cost = within.cost in
    omega (arith, few, cost, seeks, asks, all_switches size switches few, one_product (4 * size - switches) left fewer falls)

-- With a step for the mark and one for the moment.
pub within_all : (start size now last : ℕ) → now ≤ start + 2 → last ≤ now + 2 * (size * (size + 1))
    → last ≤ start + (2 * size + 2) * (size + 1)
within_all start size now last begins ends = omega (arith, begins, ends)
