-- A sweep over the numbers below the count visits the sites in their order, and does nothing else.
use Rattle.std.proofs.Common.{◌≡◌, ℕ, zero, suc, ◌+◌, List, [], ◌∷◌, ◌++◌, fold, map, length, find, filter_map, sum_by, Bool, true, false, cond, Option, Some, None, nat_eq, refl, sym, ap, ◌∙◌, arith, append_assoc, append-nil, zero-add}
use Rattle.std.specs.List.{range_with_len, cons_option}
use Rattle.std.specs.Option.{option_map_or}
use Rattle.std.proofs.lemmas.Bool.{eqb-true}
use Rattle.std.proofs.lemmas.List.{map-append, length-map}
use Rattle.std.proofs.lemmas.List.Sums.{fold-append, sum_by-append}
use Rattle.ld_base.specs.Numbers.{numbers_below}
use Rattle.ld_cascade.specs.System.{System, due}
use Rattle.ld_cascade.specs.Settling.{Firing, step, fired, visited, fired_below, swept, sweep_firings, sums_of, counted}
use Rattle.ld_model.specs.declared.unit.Unit.{Unit}
use Rattle.ld_names.specs.Rules.{Site, sites_of}
use Rattle.ld_names.specs.SiteNumbers.{numbered_site, site_count, site_number}
use Rattle.ld_names.proofs.SitesNumbered.{is_numbering, sites_in_order}
use Rattle.ld_firing.specs.Actions.{nothing_done, site_firing}
use Rattle.ld_state.specs.RunState.{RunState, seen_in}
use Rattle.ld_firing.specs.RunSystem.{run_system, site_at, verdict_in}
use Rattle.ld_rules.specs.SiteTests.{site_test, site_mark}
use Rattle.ld_firing.specs.SiteWalk.{HasSeats, SiteFiring, is_due, after_visit, visit_firings, walked, walk_firings, all_sites, with_number, walk_sums}
use Rattle.ld_firing.proofs.SeatsKept.{visit_keeps_persons, visit_keeps_seats}

-- ---- visits of numbers, in any system

last_number : (a n : ℕ) → range_with_len a (suc n) ≡ range_with_len a n ++ (a + n) ∷ []
last_number a zero = ap (λ k. k ∷ []) (omega arith)
last_number a (suc n) = ap (λ rest. a ∷ rest) (last_number (a + 1) n ∙ ap (λ k. range_with_len (a + 1) n ++ k ∷ []) (omega arith))

last_below : (n : ℕ) → numbers_below (suc n) ≡ numbers_below n ++ n ∷ []
last_below n = last_number 0 n ∙ ap (λ k. numbers_below n ++ k ∷ []) (omega arith)

visited_numbers : (y : System) (s : y.Situation) (n : ℕ) → visited y s n ≡ fold (step y) s (numbers_below n)
unfolding visited
visited_numbers y s zero = refl
visited_numbers y s (suc n) =
    ap (λ t. step y t n) (visited_numbers y s n)
    ∙ sym (ap (fold (step y) s) (last_below n) ∙ fold-append (step y) s (numbers_below n) (n ∷ []))

-- The firings of visits of these numbers.
abbrev firings_at : (y : System) → y.Situation → List ℕ → List (Firing y)
firings_at y s [] = []
firings_at y s (i ∷ numbers) = fired y s i ++ firings_at y (step y s i) numbers

firings_on : (y : System) (s : y.Situation) (xs ys : List ℕ) → firings_at y s (xs ++ ys) ≡ firings_at y s xs ++ firings_at y (fold (step y) s xs) ys
firings_on y s [] ys = refl
firings_on y s (i ∷ xs) ys =
    ap (λ rest. fired y s i ++ rest) (firings_on y (step y s i) xs ys)
    ∙ sym (append_assoc (fired y s i) (firings_at y (step y s i) xs) (firings_at y (fold (step y) (step y s i) xs) ys))

fired_numbers : (y : System) (s : y.Situation) (n : ℕ) → fired_below y s n ≡ firings_at y s (numbers_below n)
unfolding fired_below
fired_numbers y s zero = refl
fired_numbers y s (suc n) =
    ap (λ before. before ++ fired y (visited y s n) n) (fired_numbers y s n)
    ∙ ap (λ t. firings_at y s (numbers_below n) ++ fired y t n) (visited_numbers y s n)
    ∙ sym (ap (firings_at y s) (last_below n) ∙ firings_on y s (numbers_below n) (n ∷ []) ∙ ap (λ last. firings_at y s (numbers_below n) ++ last) (append-nil (fired y (fold (step y) s (numbers_below n)) n)))

-- ---- visits of the numbers of sites

same_site : (unit : Unit) (s : RunState) (seats persons i : ℕ) → s.seats ≡ seats → length s.persons ≡ persons → site_at unit s i ≡ numbered_site unit seats persons i
same_site unit s seats persons i with_seats with_persons =
    ap (λ k. numbered_site unit k (length s.persons) i) with_seats ∙ ap (λ k. numbered_site unit seats k i) with_persons

-- What the visit of a number does, by the site that it has.
abbrev due_by : Unit → RunState → Option Site → Bool
due_by unit s found = due (option_map_or (site_test unit (seen_in unit s)) found false) (option_map_or (λ site. verdict_in (s.cells (site_mark site))) found (Some false))

abbrev after_by : Unit → RunState → Option Site → RunState
after_by unit s found = cond (due_by unit s found) (option_map_or (site_firing unit s) found (nothing_done s)).state s

step_by : (unit : Unit) (s : RunState) (i : ℕ) → step (run_system unit) s i ≡ after_by unit s (site_at unit s i)
step_by unit s i = refl

step_is : (unit : Unit) (s : RunState) (seats persons i : ℕ) → s.seats ≡ seats → length s.persons ≡ persons → step (run_system unit) s i ≡ after_by unit s (numbered_site unit seats persons i)
step_is unit s seats persons i with_seats with_persons = ap (after_by unit s) (same_site unit s seats persons i with_seats with_persons)

states_walk : (unit : Unit) (s : RunState) (seats persons : ℕ) (numbers : List ℕ) → s.seats ≡ seats → length s.persons ≡ persons → fold (step (run_system unit)) s numbers ≡ walked unit s (filter_map (numbered_site unit seats persons) numbers)
states_walk unit s seats persons [] with_seats with_persons = refl
states_walk unit s seats persons (i ∷ numbers) with_seats with_persons =
    ap (λ t. fold (step (run_system unit)) t numbers) (step_is unit s seats persons i with_seats with_persons)
    ∙ by (numbered_site unit seats persons i) (λ t t_seats t_persons. states_walk unit t seats persons numbers t_seats t_persons)
  where
    by : (found : Option Site) → ((t : RunState) → t.seats ≡ seats → length t.persons ≡ persons → fold (step (run_system unit)) t numbers ≡ walked unit t (filter_map (numbered_site unit seats persons) numbers)) → fold (step (run_system unit)) (after_by unit s found) numbers ≡ walked unit s (cons_option found (filter_map (numbered_site unit seats persons) numbers))
    by None rest = rest s with_seats with_persons
    by (Some site) rest = rest (after_visit unit s site) (visit_keeps_seats unit s site ∙ with_seats) (ap length (visit_keeps_persons unit s site) ∙ with_persons)

-- A sweep is a walk over all sites.
pub sweep_walks : (unit : Unit) (s : RunState) → HasSeats s → swept (run_system unit) s ≡ walked unit s (all_sites unit s)
sweep_walks unit s seats =
    visited_numbers (run_system unit) s (site_count unit s.seats)
    ∙ states_walk unit s s.seats (length s.persons) (numbers_below (site_count unit s.seats)) refl refl
    ∙ ap (walked unit s) (sites_in_order unit s.seats (length s.persons) (is_numbering unit s.seats (length s.persons) seats.seat seats.seated))

-- ---- firings

found_passes : {X : Type 0} (test : X → Bool) (xs : List X) (x : X) → find test xs ≡ Some x → test x ≡ true
found_passes test [] x found = cc
found_passes test (y ∷ xs) x found = by (test y) refl (found_passes test xs x) found
  where
    by : (b : Bool) → test y ≡ b → (find test xs ≡ Some x → test x ≡ true) → cond b (Some y) (find test xs) ≡ Some x → test x ≡ true
    by true passes rest here = let same : y ≡ x = cc in ap test (sym same) ∙ passes
    by false fails rest later = rest later

has_number : (unit : Unit) (seats persons i : ℕ) (site : Site) → numbered_site unit seats persons i ≡ Some site → site_number unit seats site ≡ i
has_number unit seats persons i site found = eqb-true (site_number unit seats site) i (found_passes (λ x. nat_eq (site_number unit seats x) i) (sites_of unit persons) site found)

abbrev fired_by : (unit : Unit) → RunState → ℕ → Option Site → List (Firing (run_system unit))
fired_by unit s i found = cond (due_by unit s found) (record { before = s; site = i } ∷ []) []

fired_is : (unit : Unit) (s : RunState) (seats persons i : ℕ) → s.seats ≡ seats → length s.persons ≡ persons → fired (run_system unit) s i ≡ fired_by unit s i (numbered_site unit seats persons i)
fired_is unit s seats persons i with_seats with_persons = ap (fired_by unit s i) (same_site unit s seats persons i with_seats with_persons)

firing_numbered : (unit : Unit) (s : RunState) (seats i : ℕ) (site : Site) → site_number unit seats site ≡ i → fired_by unit s i (Some site) ≡ map (with_number unit seats) (visit_firings unit s site)
firing_numbered unit s seats i site number = by (is_due unit s site)
  where
    by : (b : Bool) → cond b (record { before = s; site = i } ∷ []) [] ≡ map (with_number unit seats) (cond b (record { before = s; site = site } ∷ []) [])
    by true = ap (λ k. record { before = s; site = k } ∷ []) (sym number)
    by false = refl

firings_walk : (unit : Unit) (s : RunState) (seats persons : ℕ) (numbers : List ℕ) → s.seats ≡ seats → length s.persons ≡ persons → firings_at (run_system unit) s numbers ≡ map (with_number unit seats) (walk_firings unit s (filter_map (numbered_site unit seats persons) numbers))
firings_walk unit s seats persons [] with_seats with_persons = refl
firings_walk unit s seats persons (i ∷ numbers) with_seats with_persons =
    ap (λ first. first ++ firings_at (run_system unit) (step (run_system unit) s i) numbers) (fired_is unit s seats persons i with_seats with_persons)
    ∙ ap (λ t. fired_by unit s i (numbered_site unit seats persons i) ++ firings_at (run_system unit) t numbers) (step_is unit s seats persons i with_seats with_persons)
    ∙ by (numbered_site unit seats persons i) refl (λ t t_seats t_persons. firings_walk unit t seats persons numbers t_seats t_persons)
  where
    by : (found : Option Site) → numbered_site unit seats persons i ≡ found → ((t : RunState) → t.seats ≡ seats → length t.persons ≡ persons → firings_at (run_system unit) t numbers ≡ map (with_number unit seats) (walk_firings unit t (filter_map (numbered_site unit seats persons) numbers))) → fired_by unit s i found ++ firings_at (run_system unit) (after_by unit s found) numbers ≡ map (with_number unit seats) (walk_firings unit s (cons_option found (filter_map (numbered_site unit seats persons) numbers)))
    by None is rest = rest s with_seats with_persons
    by (Some site) is rest =
        ap (λ first. first ++ firings_at (run_system unit) (after_visit unit s site) numbers) (firing_numbered unit s seats i site (has_number unit seats persons i site is))
        ∙ ap (λ later. map (with_number unit seats) (visit_firings unit s site) ++ later) (rest (after_visit unit s site) (visit_keeps_seats unit s site ∙ with_seats) (ap length (visit_keeps_persons unit s site) ∙ with_persons))
        ∙ sym (map-append (with_number unit seats) (visit_firings unit s site) (walk_firings unit (after_visit unit s site) (filter_map (numbered_site unit seats persons) numbers)))

-- The firings of a sweep are those of the walk.
pub sweep_fires : (unit : Unit) (s : RunState) → HasSeats s → sweep_firings (run_system unit) s ≡ map (with_number unit s.seats) (walk_firings unit s (all_sites unit s))
sweep_fires unit s seats =
    fired_numbers (run_system unit) s (site_count unit s.seats)
    ∙ firings_walk unit s s.seats (length s.persons) (numbers_below (site_count unit s.seats)) refl refl
    ∙ ap (λ sites. map (with_number unit s.seats) (walk_firings unit s sites)) (sites_in_order unit s.seats (length s.persons) (is_numbering unit s.seats (length s.persons) seats.seat seats.seated))

-- ---- sums

-- A number that a visit of a site's number gives is the one that the visit of the site gives.
abbrev Measures : Unit → (RunState → ℕ → ℕ) → (RunState → Site → ℕ) → Type 0
Measures unit of_number of_site =
    (s : RunState) (i : ℕ) (site : Site) → site_at unit s i ≡ Some site → of_number s i ≡ of_site s site

abbrev by_number : (unit : Unit) → (RunState → ℕ → ℕ) → Firing (run_system unit) → ℕ
by_number unit of_number f = of_number f.before f.site

abbrev by_site : (RunState → Site → ℕ) → SiteFiring → ℕ
by_site of_site f = of_site f.before f.site

sum_walk : (unit : Unit) (seats persons : ℕ) (of_number : RunState → ℕ → ℕ) (of_site : RunState → Site → ℕ) → Measures unit of_number of_site → (s : RunState) (numbers : List ℕ) → s.seats ≡ seats → length s.persons ≡ persons → sum_by (by_number unit of_number) (firings_at (run_system unit) s numbers) ≡ sum_by (by_site of_site) (walk_firings unit s (filter_map (numbered_site unit seats persons) numbers))
sum_walk unit seats persons of_number of_site measures s [] with_seats with_persons = refl
sum_walk unit seats persons of_number of_site measures s (i ∷ numbers) with_seats with_persons =
    sum_by-append (by_number unit of_number) (fired (run_system unit) s i) (firings_at (run_system unit) (step (run_system unit) s i) numbers)
    ∙ ap (λ first. sum_by (by_number unit of_number) first + sum_by (by_number unit of_number) (firings_at (run_system unit) (step (run_system unit) s i) numbers)) (fired_is unit s seats persons i with_seats with_persons)
    ∙ ap (λ t. sum_by (by_number unit of_number) (fired_by unit s i (numbered_site unit seats persons i)) + sum_by (by_number unit of_number) (firings_at (run_system unit) t numbers)) (step_is unit s seats persons i with_seats with_persons)
    ∙ by (numbered_site unit seats persons i) refl (λ t t_seats t_persons. sum_walk unit seats persons of_number of_site measures t numbers t_seats t_persons)
  where
    one : (site : Site) → of_number s i ≡ of_site s site → (b : Bool) → sum_by (by_number unit of_number) (cond b (record { before = s; site = i } ∷ []) []) ≡ sum_by (by_site of_site) (cond b (record { before = s; site = site } ∷ []) [])
    one site same true = ap (λ k. 0 + k) same
    one site same false = refl

    by : (found : Option Site) → numbered_site unit seats persons i ≡ found → ((t : RunState) → t.seats ≡ seats → length t.persons ≡ persons → sum_by (by_number unit of_number) (firings_at (run_system unit) t numbers) ≡ sum_by (by_site of_site) (walk_firings unit t (filter_map (numbered_site unit seats persons) numbers))) → sum_by (by_number unit of_number) (fired_by unit s i found) + sum_by (by_number unit of_number) (firings_at (run_system unit) (after_by unit s found) numbers) ≡ sum_by (by_site of_site) (walk_firings unit s (cons_option found (filter_map (numbered_site unit seats persons) numbers)))
    by None is rest = zero-add (sum_by (by_number unit of_number) (firings_at (run_system unit) s numbers)) ∙ rest s with_seats with_persons
    by (Some site) is rest =
        ap (λ first. first + sum_by (by_number unit of_number) (firings_at (run_system unit) (after_visit unit s site) numbers)) (one site (measures s i site (same_site unit s seats persons i with_seats with_persons ∙ is)) (is_due unit s site))
        ∙ ap (λ later. sum_by (by_site of_site) (visit_firings unit s site) + later) (rest (after_visit unit s site) (visit_keeps_seats unit s site ∙ with_seats) (ap length (visit_keeps_persons unit s site) ∙ with_persons))
        ∙ sym (sum_by-append (by_site of_site) (visit_firings unit s site) (walk_firings unit (after_visit unit s site) (filter_map (numbered_site unit seats persons) numbers)))

sweep_sum : (unit : Unit) (of_number : RunState → ℕ → ℕ) (of_site : RunState → Site → ℕ) (s : RunState) → Measures unit of_number of_site → HasSeats s → sum_by (by_number unit of_number) (sweep_firings (run_system unit) s) ≡ sum_by (by_site of_site) (walk_firings unit s (all_sites unit s))
sweep_sum unit of_number of_site s measures seats =
    ap (sum_by (by_number unit of_number)) (fired_numbers (run_system unit) s (site_count unit s.seats))
    ∙ sum_walk unit s.seats (length s.persons) of_number of_site measures s (numbers_below (site_count unit s.seats)) refl refl
    ∙ ap (λ sites. sum_by (by_site of_site) (walk_firings unit s sites)) (sites_in_order unit s.seats (length s.persons) (is_numbering unit s.seats (length s.persons) seats.seat seats.seated))

-- The sums of a sweep are those of the walk.
pub sweep_sums : (unit : Unit) (s : RunState) → HasSeats s → sums_of (run_system unit) (sweep_firings (run_system unit) s) ≡ walk_sums unit (walk_firings unit s (all_sites unit s))
sweep_sums unit s seats = λ i. counted (fired_same i) (rejected_same i) (sent_same i)
  where
    fired_same : length (sweep_firings (run_system unit) s) ≡ length (walk_firings unit s (all_sites unit s))
    fired_same = ap length (sweep_fires unit s seats) ∙ length-map (walk_firings unit s (all_sites unit s)) (with_number unit s.seats)

    rejected_same : sum_by (by_number unit (run_system unit).rejected) (sweep_firings (run_system unit) s) ≡ sum_by (by_site (λ t site. (site_firing unit t site).rejected)) (walk_firings unit s (all_sites unit s))
    rejected_same = sweep_sum unit (run_system unit).rejected (λ t site. (site_firing unit t site).rejected) s (λ t i site found. ap (λ at. (option_map_or (site_firing unit t) at (nothing_done t)).rejected) found) seats

    sent_same : sum_by (by_number unit (run_system unit).sent) (sweep_firings (run_system unit) s) ≡ sum_by (by_site (λ t site. (site_firing unit t site).sent)) (walk_firings unit s (all_sites unit s))
    sent_same = sweep_sum unit (run_system unit).sent (λ t site. (site_firing unit t site).sent) s (λ t i site found. ap (λ at. (option_map_or (site_firing unit t) at (nothing_done t)).sent) found) seats
