-- What covers a need, and what a weaker lock at one node leaves covered.
use Rattle.std.proofs.Common.{◌≡◌, Bool, true, false, refl, sym, ◌∙◌, ap, subst, ◌⊎◌, inl, inr, List, [], ◌∷◌}
use Rattle.std.specs.Prelude.{◌||◌, not, if◌then◌else◌}
use Rattle.std.proofs.lemmas.Bool.{false≢true, and_parts, and_from, or_left, or_right, or_cases, cases_Bool}
use Rattle.vms_queues.specs.declared.lock_mode.Mode.{Mode}
use Rattle.vms_queues.specs.declared.lock_mode.Mode.TheVariants.{NL, CR, CW, PR, PW, EX}
use Rattle.vms_queues.specs.Modes.{at_most, intent}
use Rattle.rdb_types.specs.declared.node.Level.{Level}
use Rattle.rdb_types.specs.declared.node.Level.TheVariants.{Area, Range, Page, Line, Journal}
use Rattle.rdb_types.specs.declared.node.Node.{Node}
use Rattle.lock_needs.specs.declared.need.Need.{Need}
use Rattle.lock_needs.specs.Nodes.{is_above, on_way, same_node, contains}
use Rattle.lock_needs.specs.Needs.{Holding, covers_below, covers_from, covered_above, is_covered, all_covered, supposing, is_plain, is_plain_at}
use Rattle.lock_needs.specs.Keeping.{allows, is_enough}
use Rattle.lock_needs.proofs.ModeTables.{at_most-trans, covers_below-more, covers_below-own}
use Rattle.lock_needs.proofs.NodeLaws.{same_node-true, same_node-sym, contains-above, contains-is, way-contains}

-- what holds of both branches of a choice holds of it
pub by_test : {X : Type 0} (P : X → Type 0) (b : Bool) (x y : X) → (b ≡ true → P x) → (b ≡ false → P y) → P (if b then x else y)
by_test P true x y f g = f refl
by_test P false x y f g = g refl

module _ (held more : Holding) (up : (x : Node) → at_most (held x) (more x) ≡ true) where
  covers_from-more : (w : Need) (l : Level) → covers_from held w l ≡ true → covers_from more w l ≡ true
  covers_from-more w l h =
      let p = and_parts (is_above l w.node.level) (covers_below (held (on_way l w.node)) w.mode) h in
      and_from (is_above l w.node.level) (covers_below (more (on_way l w.node)) w.mode) p.0
      (covers_below-more (held (on_way l w.node)) (more (on_way l w.node)) w.mode (up (on_way l w.node)) p.1)

  pub covered_above-more : (w : Need) → covered_above held w ≡ true → covered_above more w ≡ true
  covered_above-more w h =
      elim (or_cases (covers_from held w Area) (covers_from held w Range || covers_from held w Page) h) [
        | inl a ↦ or_left (covers_from more w Area) (covers_from more w Range || covers_from more w Page) (covers_from-more w Area a)
        | inr b ↦ or_right (covers_from more w Area) (covers_from more w Range || covers_from more w Page)
            (elim (or_cases (covers_from held w Range) (covers_from held w Page) b) [
              | inl c ↦ or_left (covers_from more w Range) (covers_from more w Page) (covers_from-more w Range c)
              | inr d ↦ or_right (covers_from more w Range) (covers_from more w Page) (covers_from-more w Page d)
            ])
      ]

  pub covered-more : (w : Need) → is_covered held w ≡ true → is_covered more w ≡ true
  covered-more w h =
      elim (or_cases (at_most w.mode (held w.node)) (covered_above held w) h) [
        | inl a ↦ or_left (at_most w.mode (more w.node)) (covered_above more w) (at_most-trans w.mode (held w.node) (more w.node) a (up w.node))
        | inr b ↦ or_right (at_most w.mode (more w.node)) (covered_above more w) (covered_above-more w b)
      ]

  pub all_covered-more : (ws : List Need) → all_covered held ws ≡ true → all_covered more ws ≡ true
  all_covered-more [] h = refl
  all_covered-more (w ∷ ws) h =
      let p = and_parts (is_covered held w) (all_covered held ws) h in
      and_from (is_covered more w) (all_covered more ws) (covered-more w p.0) (all_covered-more ws p.1)

  pub allows-more : (n : Node) (keep : Mode) (w : Need) → allows held n keep w ≡ true → allows more n keep w ≡ true
  allows-more n keep w h =
      let p = and_parts (not (contains n w.node) || at_most (intent w.mode) keep) (not (same_node n w.node) || (at_most w.mode keep || covered_above held w)) h in
      and_from (not (contains n w.node) || at_most (intent w.mode) keep) (not (same_node n w.node) || (at_most w.mode keep || covered_above more w)) p.0
      (elim (or_cases (not (same_node n w.node)) (at_most w.mode keep || covered_above held w) p.1) [
        | inl a ↦ or_left (not (same_node n w.node)) (at_most w.mode keep || covered_above more w) a
        | inr b ↦ or_right (not (same_node n w.node)) (at_most w.mode keep || covered_above more w)
            (elim (or_cases (at_most w.mode keep) (covered_above held w) b) [
              | inl c ↦ or_left (at_most w.mode keep) (covered_above more w) c
              | inr d ↦ or_right (at_most w.mode keep) (covered_above more w) (covered_above-more w d)
            ])
      ])

  pub enough-more : (n : Node) (keep : Mode) (ws : List Need) → is_enough held ws n keep ≡ true → is_enough more ws n keep ≡ true
  enough-more n keep [] h = refl
  enough-more n keep (w ∷ ws) h =
      let p = and_parts (allows held n keep w) (is_enough held ws n keep) h in
      and_from (allows more n keep w) (is_enough more ws n keep) (allows-more n keep w p.0) (enough-more n keep ws p.1)

-- a lock on a containing node that covers it covers the need
covered_from-way : (held : Holding) (w : Need) (l : Level) → covers_from held w l ≡ true → is_covered held w ≡ true
covered_from-way held w Area h =
    or_right (at_most w.mode (held w.node)) (covered_above held w) (or_left (covers_from held w Area) (covers_from held w Range || covers_from held w Page) h)
covered_from-way held w Range h =
    or_right (at_most w.mode (held w.node)) (covered_above held w) (or_right (covers_from held w Area) (covers_from held w Range || covers_from held w Page) (or_left (covers_from held w Range) (covers_from held w Page) h))
covered_from-way held w Page h =
    or_right (at_most w.mode (held w.node)) (covered_above held w) (or_right (covers_from held w Area) (covers_from held w Range || covers_from held w Page) (or_right (covers_from held w Range) (covers_from held w Page) h))
covered_from-way held w Line h = absurd (false≢true h)
covered_from-way held w Journal h = absurd (false≢true h)

pub covered-by_upper : (held : Holding) (w : Need) (c : Node) → contains c w.node ≡ true → covers_below (held c) w.mode ≡ true → is_covered held w ≡ true
covered-by_upper held w c h k =
    covered_from-way held w c.level
    (and_from (is_above c.level w.node.level) (covers_below (held (on_way c.level w.node)) w.mode) (contains-above c w.node h)
    (subst (λ (x : Node). covers_below (held x) w.mode ≡ true) (contains-is c w.node h) k))

none-above : (upper : Level) → is_above upper Area ≡ false
none-above Area = refl
none-above Range = refl
none-above Page = refl
none-above Line = refl
none-above Journal = refl

none-above_journal : (upper : Level) → is_above upper Journal ≡ false
none-above_journal Area = refl
none-above_journal Range = refl
none-above_journal Page = refl
none-above_journal Line = refl
none-above_journal Journal = refl

-- a need under an area that is at most the lock is covered by it from above
plain-below : (l : Level) (m held : Mode) (upper : Level) → is_above upper l ≡ true → is_plain_at l m ≡ true → at_most m held ≡ true → covers_below held m ≡ true
plain-below Area m held upper h p e = absurd (false≢true (sym (none-above upper) ∙ h))
plain-below Journal m held upper h p e = absurd (false≢true (sym (none-above_journal upper) ∙ h))
plain-below l PR held upper h p e = covers_below-own held e
plain-below l EX EX upper h p e = refl
plain-below l EX NL upper h p e = absurd (false≢true e)
plain-below l EX CR upper h p e = absurd (false≢true e)
plain-below l EX CW upper h p e = absurd (false≢true e)
plain-below l EX PR upper h p e = absurd (false≢true e)
plain-below l EX PW upper h p e = absurd (false≢true e)
plain-below l NL held upper h p e = absurd (false≢true p)
plain-below l CR held upper h p e = absurd (false≢true p)
plain-below l CW held upper h p e = absurd (false≢true p)
plain-below l PW held upper h p e = absurd (false≢true p)

pub covered-by : (held : Holding) (w : Need) (c : Node) → is_plain w ≡ true → (same_node c w.node || contains c w.node) ≡ true → at_most w.mode (held c) ≡ true → is_covered held w ≡ true
covered-by held w c p h e =
    elim (or_cases (same_node c w.node) (contains c w.node) h) [
      | inl s ↦ or_left (at_most w.mode (held w.node)) (covered_above held w) (subst (λ (x : Node). at_most w.mode (held x) ≡ true) (same_node-true c w.node s) e)
      | inr k ↦ covered-by_upper held w c k (plain-below w.node.level w.mode (held c) c.level (contains-above c w.node k) p e)
    ]

-- A need that is covered stays so where the lock at one node comes down, or that lock covers it from above.
module _ (held : Holding) (n : Node) (keep : Mode) (w : Need) where
  Rests : Type 0
  Rests = (contains n w.node ≡ true) × (covers_below (held n) w.mode ≡ true)

  from-rests : (l : Level) → covers_from held w l ≡ true → (covers_from (supposing n keep held) w l ≡ true) ⊎ Rests
  unfolding Rests
  from-rests l h =
      let p = and_parts (is_above l w.node.level) (covers_below (held (on_way l w.node)) w.mode) h in
      elim (cases_Bool (same_node (on_way l w.node) n)) [
        | inl s ↦ inr (way-contains l n w.node p.0 s, subst (λ (x : Node). covers_below (held x) w.mode ≡ true) (same_node-true (on_way l w.node) n s) p.1)
        | inr d ↦ inl (and_from (is_above l w.node.level) (covers_below (supposing n keep held (on_way l w.node)) w.mode) p.0
            (subst (λ (t : Bool). covers_below (if t then keep else held (on_way l w.node)) w.mode ≡ true) (sym d) p.1))
      ]

  above-rests : covered_above held w ≡ true → (is_covered (supposing n keep held) w ≡ true) ⊎ Rests
  above-rests h =
      elim (or_cases (covers_from held w Area) (covers_from held w Range || covers_from held w Page) h) [
        | inl a ↦ elim (from-rests Area a) [ inl x ↦ inl (covered_from-way (supposing n keep held) w Area x) | inr r ↦ inr r ]
        | inr b ↦ elim (or_cases (covers_from held w Range) (covers_from held w Page) b) [
          | inl c ↦ elim (from-rests Range c) [ inl x ↦ inl (covered_from-way (supposing n keep held) w Range x) | inr r ↦ inr r ]
          | inr d ↦ elim (from-rests Page d) [ inl x ↦ inl (covered_from-way (supposing n keep held) w Page x) | inr r ↦ inr r ]
        ]
      ]

  pub kept_or_below : is_covered held w ≡ true → allows held n keep w ≡ true → (is_covered (supposing n keep held) w ≡ true) ⊎ ((contains n w.node ≡ true) × (covers_below (held n) w.mode ≡ true))
  unfolding Rests
  kept_or_below h a =
      let p = and_parts (not (contains n w.node) || at_most (intent w.mode) keep) (not (same_node n w.node) || (at_most w.mode keep || covered_above held w)) a in
      let own : at_most w.mode (supposing n keep held w.node) ≡ true → is_covered (supposing n keep held) w ≡ true =
      or_left (at_most w.mode (supposing n keep held w.node)) (covered_above (supposing n keep held) w) in
      elim (or_cases (at_most w.mode (held w.node)) (covered_above held w) h) [
        | inr u ↦ above-rests u
        | inl o ↦ elim (cases_Bool (same_node w.node n)) [
          | inr d ↦ inl (own (subst (λ (t : Bool). at_most w.mode (if t then keep else held w.node) ≡ true) (sym d) o))
          | inl s ↦ elim (or_cases (not (same_node n w.node)) (at_most w.mode keep || covered_above held w) p.1) [
            | inl apart ↦ absurd (false≢true (ap not (sym (same_node-sym w.node n s)) ∙ apart))
            | inr kept ↦ elim (or_cases (at_most w.mode keep) (covered_above held w) kept) [
              | inl k ↦ inl (own (subst (λ (t : Bool). at_most w.mode (if t then keep else held w.node) ≡ true) (sym s) k))
              | inr u ↦ above-rests u
            ]
          ]
        ]
      ]
