-- Graphs: for each node, counted from 0, the nodes to which it leads.
use Rattle.std.specs.Prelude.{◌≡◌, ℕ, zero, suc, ◌+◌, List, [], Option, Some, None, Bool, true, false, ◌||◌, nat_eq, map, length, position, slice_get}
use Rattle.std.specs.List.{list_any, sum_by}
use Rattle.ld_base.specs.Numbers.{numbers_below}

-- For each node, counted from 0, the numbers of the nodes to which it leads by one step.
abbrev pub Graph : Type 0
Graph = List (List ℕ)

-- The nodes, or no nodes where nothing is there.
abbrev pub nodes_or_none : Option (List ℕ) → List ℕ
nodes_or_none None = []
nodes_or_none (Some nodes) = nodes

-- The nodes to which a node leads by one step; a number that is no node leads to none.
abbrev pub next_of : Graph → ℕ → List ℕ
next_of g a = nodes_or_none (slice_get g a)

-- ---- cycles

-- One step leads from the first node to the second.
abbrev pub IsNext : Graph → ℕ → ℕ → Type 0
IsNext g a b = list_any (λ c. nat_eq c b) (next_of g a) ≡ true

-- A way of this many steps leads from the first node to the second.
abbrev pub HasWay : Graph → ℕ → ℕ → ℕ → Type 0
HasWay g zero a b = a ≡ b
HasWay g (suc n) a b = (c : ℕ) × IsNext g a c × HasWay g n c b

-- The first node leads to the second by at least one step.
abbrev pub LeadsTo : Graph → ℕ → ℕ → Type 0
LeadsTo g a b = (n : ℕ) × HasWay g (suc n) a b

-- Whether the first node leads to the second by at least one step and at most this many.
abbrev pub leads_within : Graph → ℕ → ℕ → ℕ → Bool
leads_within g zero a b = false
leads_within g (suc n) a b = list_any (λ c. nat_eq c b || leads_within g n c b) (next_of g a)

-- Whether the node leads to itself. The shortest way there passes no other node twice, so that it has
-- at most as many steps as there are nodes.
abbrev pub is_on_cycle : Graph → ℕ → Bool
is_on_cycle g a = leads_within g (length g) a a

-- The first node that leads to itself.
abbrev pub first_on_cycle : Graph → Option ℕ
first_on_cycle g = position (is_on_cycle g) (numbers_below (length g))

-- ---- sizes

-- The number, or 0 where nothing is there.
abbrev pub number_or_zero : Option ℕ → ℕ
number_or_zero None = 0
number_or_zero (Some n) = n

-- The number at the index, or 0 where there is none.
abbrev pub number_or_zero_at : List ℕ → ℕ → ℕ
number_or_zero_at numbers index = number_or_zero (slice_get numbers index)

-- The sum of the node's own size and of what the nodes to which it leads expand to, ways of more than
-- this many nodes left out. A node counts as often as ways lead to it.
abbrev pub expanded_within : List ℕ → Graph → ℕ → ℕ → ℕ
expanded_within own g zero a = 0
expanded_within own g (suc n) a = number_or_zero_at own a + sum_by (expanded_within own g n) (next_of g a)

-- What a node expands to in a graph without cycles, in which no way has more nodes than the graph.
abbrev pub expanded_size : List ℕ → Graph → ℕ → ℕ
expanded_size own g a = expanded_within own g (length g) a

-- What all nodes expand to.
abbrev pub expanded_sizes : List ℕ → Graph → List ℕ
expanded_sizes own g = map (expanded_size own g) (numbers_below (length g))

-- Each node's size is its own and, for each step that it leads, the size of the node to which that goes.
abbrev pub AddUp : List ℕ → Graph → (ℕ → ℕ) → Type 0
AddUp own g size = (a : ℕ) → size a ≡ number_or_zero_at own a + sum_by size (next_of g a)
