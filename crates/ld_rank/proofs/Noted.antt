-- What is noted of rules and cells.
use Rattle.std.proofs.Common.{◌≡◌, refl, sym, ap, ap₂, ◌∙◌, rules, ℕ, ◌+◌, ◌<◌, ◌≤◌, inl, inr, List, [], ◌∷◌, ◌++◌, drop, filter, get_or, length, Option, Some, None, Bool, true, false, cond, ◌&&◌, ◌||◌, nat_eq, nat_lt, append-nil, add-one, arith}
use Rattle.std.proofs.Math.Seq.{drop-cons}
use Rattle.std.proofs.lemmas.Bool.{cases_eq, cases_lt, eq-eqb, false≢true, lt-ltb, ltb-true, ne_eqb}
use Rattle.std.proofs.lemmas.List.Folds.{list_any-append}
use Rattle.std.proofs.lemmas.Option.{slice_get_past}
use Rattle.std.specs.List.{list_any}
use Rattle.std.specs.Ordering.{is_eq}
use Rattle.ld_model.specs.Cells.{same_cell}
use Rattle.ld_model.specs.contracts.cell.CellNameOrd.TheImpl.Laws.{matches_eq-law}
use Rattle.ld_model.specs.declared.cell.CellName.{CellName}
use Rattle.ld_model.specs.declared.unit.Unit.{Unit}
use Rattle.ld_names.specs.Rules.{rules_of}
use Rattle.ld_expr.specs.Lookup.{is_some_and, list_from}
use Rattle.ld_state.proofs.SameCells.{one_cell, same_cell_itself}
use Rattle.ld_rank.specs.Alone.{is_fed, looks_alone}
use Rattle.ld_rank.specs.Lookers.{cell_cmp, rule_looks_at}

-- Cells are equal in their order just where they are one.
pub equal_cells : (a b : CellName) → is_eq (cell_cmp a b) ≡ same_cell a b
equal_cells a b = sym (matches_eq-law a b) ∙ search rules

same_turned : (a b : CellName) → same_cell a b ≡ same_cell b a
same_turned a b = by (same_cell a b) (same_cell b a) refl refl
  where
    by : (x y : Bool) → same_cell a b ≡ x → same_cell b a ≡ y → x ≡ y
    by true true first second = refl
    by false false first second = refl
    by true false first second =
        sym (sym second ∙ ap (λ c. same_cell b c) (one_cell a b first) ∙ same_cell_itself b)
    by false true first second =
        sym first ∙ ap (λ c. same_cell a c) (one_cell b a second) ∙ same_cell_itself a

-- What is noted for a cell, once a rule is noted for one.
pub noted_more : {V : Type 0} (items : V → List ℕ) (q cell : CellName) (rule : ℕ) (old mid new : CellName → Option V) (noted : V)
    → items noted ≡ list_from items (old cell) ++ rule ∷ []
    → mid q ≡ cond (is_eq (cell_cmp cell q)) None (old q)
    → new q ≡ cond (is_eq (cell_cmp cell q)) (Some noted) (mid q)
    → list_from items (new q) ≡ list_from items (old q) ++ cond (same_cell q cell) (rule ∷ []) []
noted_more items q cell rule old mid new noted one taken put =
    ap (list_from items) (put ∙ ap (λ m. cond (is_eq (cell_cmp cell q)) (Some noted) m) taken)
    ∙ ap (λ b. list_from items (cond b (Some noted) (cond b None (old q)))) (equal_cells cell q ∙ same_turned cell q)
    ∙ by (same_cell q cell) refl
  where
    by : (same : Bool) → same_cell q cell ≡ same
        → list_from items (cond same (Some noted) (cond same None (old q))) ≡ list_from items (old q) ++ cond same (rule ∷ []) []
    by true is = one ∙ ap (λ c. list_from items (old c) ++ rule ∷ []) (sym (one_cell q cell is))
    by false is = sym (append-nil (list_from items (old q)))

-- ---- lists that are gone through

-- One more of the elements was looked at, as far as that counts.
pub one_looked : {A : Type 0} (counts : Bool) (p : A → Bool) (xs : List A) (i : ℕ) (d : A) (before now whole : Bool)
    → i < length xs → now ≡ (before || (counts && p (get_or xs i d)))
    → (before || (counts && list_any p (drop i xs))) ≡ whole → (now || (counts && list_any p (drop (i + 1) xs))) ≡ whole
one_looked counts p xs i d before now whole within is so_far =
    let cut = drop-cons xs i d within ∙ ap (λ k. get_or xs i d ∷ drop k xs) (sym (add-one i)) in
    ap (λ b. b || (counts && list_any p (drop (i + 1) xs))) is
    ∙ turned before counts (p (get_or xs i d)) (list_any p (drop (i + 1) xs))
    ∙ ap (λ rest. before || (counts && list_any p rest)) (sym cut)
    ∙ so_far
  where
    turned : (a b x y : Bool) → ((a || (b && x)) || (b && y)) ≡ (a || (b && (x || y)))
    turned true b x y = refl
    turned false true x y = refl
    turned false false x y = refl

-- Whether a rule is noted, with one more at the end.
pub noted_is : (p : ℕ → Bool) (rules : List ℕ) (rule : ℕ) (so : Bool)
    → list_any p (rules ++ cond so (rule ∷ []) []) ≡ (list_any p rules || (p rule && so))
noted_is p rules rule so = list_any-append p rules (cond so (rule ∷ []) []) ∙ ap (λ b. list_any p rules || b) (by so (p rule) refl)
  where
    by : (so passes : Bool) → p rule ≡ passes → list_any p (cond so (rule ∷ []) []) ≡ (passes && so)
    by true true is = rw is refl
    by true false is = rw is refl
    by false true is = refl
    by false false is = refl

-- A cell that a firing may write is sought among such cells alone.
pub sought_among : (cell : CellName) (cells : List CellName) → is_fed cell ≡ true
    → list_any (same_cell cell) (filter is_fed cells) ≡ list_any (same_cell cell) cells
sought_among cell [] fed = refl
sought_among cell (x ∷ cells) fed = by (is_fed x) (same_cell cell x) refl refl (sought_among cell cells fed)
  where
    by : (written same : Bool) → is_fed x ≡ written → same_cell cell x ≡ same
        → list_any (same_cell cell) (filter is_fed cells) ≡ list_any (same_cell cell) cells
        → list_any (same_cell cell) (cond written (x ∷ filter is_fed cells) (filter is_fed cells)) ≡ (same || list_any (same_cell cell) cells)
    by true same is_written is_same rest = ap₂ (λ a b. a || b) is_same rest
    by false true is_written is_same rest =
        absurd (false≢true (sym is_written ∙ ap is_fed (sym (one_cell cell x is_same)) ∙ fed))
    by false false is_written is_same rest = rest

-- The rules below one more number.
pub one_more_rule : (f : ℕ → Bool) (number rule : ℕ) (before now : Bool) → before ≡ (nat_lt rule number && f rule)
    → now ≡ (before || (nat_eq number rule && f number)) → now ≡ (nat_lt rule (number + 1) && f rule)
one_more_rule f number rule before now is then = elim (cases_eq number rule) [
  | inl same ↦
      then ∙ ap₂ (λ a b. a || (b && f number)) (is ∙ ap (λ b. b && f rule) (not_lt rule number (omega (arith, same)))) (eq-eqb number rule same)
      ∙ ap f same ∙ sym (ap (λ b. b && f rule) (lt-ltb rule (number + 1) (omega (arith, same))))
  | inr other ↦
      then ∙ ap₂ (λ a b. a || (b && f number)) is (ne_eqb number rule other) ∙ or_false (nat_lt rule number && f rule)
      ∙ ap (λ b. b && f rule) (same_below other)
]
  where
    or_false : (b : Bool) → (b || false) ≡ b
    or_false true = refl
    or_false false = refl

    not_lt : (a b : ℕ) → b ≤ a → nat_lt a b ≡ false
    not_lt a b past = by (nat_lt a b) refl
      where
        by : (less : Bool) → nat_lt a b ≡ less → less ≡ false
        by false is = refl
        by true is = absurd (omega (arith, ltb-true a b is, past))

    same_below : (number ≡ rule → ⊥) → nat_lt rule number ≡ nat_lt rule (number + 1)
    same_below other = elim (cases_lt rule number) [
      | inl less ↦ lt-ltb rule number less ∙ sym (lt-ltb rule (number + 1) (omega (arith, less)))
      | inr past ↦ not_lt rule number past ∙ sym (not_lt rule (number + 1) (omega (arith, past, other)))
    ]

-- Beyond the rules none looks at a cell.
pub all_rules : (unit : Unit) (cell : CellName) (rule n : ℕ) → length (rules_of unit) ≤ n
    → (nat_lt rule n && rule_looks_at unit rule cell) ≡ rule_looks_at unit rule cell
all_rules unit cell rule n all = elim (cases_lt rule n) [
  | inl less ↦ ap (λ b. b && rule_looks_at unit rule cell) (lt-ltb rule n less)
  | inr past ↦ (let beyond = ap (is_some_and (λ each. list_any (same_cell cell) (looks_alone unit each))) (slice_get_past (rules_of unit) rule (omega (arith, all, past))) in
      ap (λ b. nat_lt rule n && b) beyond ∙ none_and (nat_lt rule n) ∙ sym beyond)
]
  where
    none_and : (b : Bool) → (b && false) ≡ false
    none_and true = refl
    none_and false = refl
