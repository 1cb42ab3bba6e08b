-- What is counted of one owner: the steps of its open want, and its needs under stronger locks than it has to have.
use Rattle.std.proofs.Common.{◌≡◌, ℕ, ◌+◌, ◌*◌, ◌-◌, ◌<◌, ◌≤◌, Bool, true, false, refl, sym, ◌∙◌, ap, subst, ◌⊎◌, inl, inr, arith}
use Rattle.std.specs.Prelude.{◌&&◌, ◌||◌, ◌==◌, not, if◌then◌else◌, Option, Some, None}
use Rattle.std.specs.List.{count_by}
use Rattle.std.proofs.Math.Nat.{le_of_eq, le_of_lt}
use Rattle.std.proofs.lemmas.Bool.{false≢true, cases_Bool, and_parts, and_from, or_cases, eqb-true}
use Rattle.rdb_types.specs.declared.node.Level.{Level}
use Rattle.rdb_types.specs.declared.node.Level.TheVariants.{Area, Range, Page, Line, Journal}
use Rattle.rdb_types.specs.declared.node.Node.{Node}
use Rattle.vms_queues.specs.declared.lock_mode.Mode.{Mode}
use Rattle.vms_queues.specs.declared.lock_mode.Mode.TheVariants.{NL}
use Rattle.vms_queues.specs.Modes.{at_most}
use Rattle.lock_needs.specs.declared.need.Need.{Need}
use Rattle.lock_needs.specs.declared.party.OpenWant.{OpenWant}
use Rattle.lock_needs.specs.Party.{Party}
use Rattle.lock_needs.specs.Nodes.{is_above, level_over, on_way, same_node, contains, is_on, above_of}
use Rattle.lock_needs.specs.Needs.{Holding}
use Rattle.lock_needs.specs.Keeping.{must_keep, is_excess}
use Rattle.lock_needs.specs.Wants.{mode_for, opened_at, sleeps_at, kept_at}
use Rattle.lock_needs.proofs.ModeTables.{at_most-refl, at_most-trans}
use Rattle.lock_needs.proofs.NodeLaws.{same_node-true, same_node-refl, contains-above, contains-is, way-level}
use Rattle.lock_needs.proofs.Above.{above-contains, above-level}
use Rattle.lock_needs.proofs.Joins.{nothing}
use Rattle.lock_tree_laws.specs.Parties.{IsKeptBut, was_asked, is_needed, nowhere}
use Rattle.lock_tree_laws.specs.Room.{depth}
use Rattle.lock_tree_laws.specs.Progress.{has_mode, steps_here, steps_for, is_spare, is_spare_over}
use Rattle.lock_tree_laws.proofs.OwnLocks.{asked-at_here, asked-under, opened-same}
use Rattle.lock_tree_laws.proofs.Brought.{excess-unasked}
use Rattle.lock_tree_laws.proofs.Leaving.{and-none}
use Rattle.lock_tree_laws.proofs.Falling.{counted_at, count-most, count-less}

-- ---- levels

above-depth : (l k : Level) → is_above l k ≡ true → depth l < depth k
above-depth Area Range h = omega arith
above-depth Area Page h = omega arith
above-depth Area Line h = omega arith
above-depth Range Page h = omega arith
above-depth Range Line h = omega arith
above-depth Page Line h = omega arith
above-depth l k h = absurd (false≢true h)

pub contains-deeper : (a b : Node) → contains a b ≡ true → depth a.level < depth b.level
contains-deeper a b h = above-depth a.level b.level (contains-above a b h)

pub on-depth : (a b : Node) → is_on a b ≡ true → depth a.level ≤ depth b.level
on-depth a b h = elim (or_cases (same_node a b) (contains a b) h) [
  | inl s ↦ le_of_eq (ap (λ (x : Node). depth x.level) (same_node-true a b s))
  | inr c ↦ le_of_lt (contains-deeper a b c)
]

over-depth : (l : Level) → is_above (level_over l) l ≡ true → depth l ≡ depth (level_over l) + 1
over-depth Area h = absurd (false≢true h)
over-depth Range h = refl
over-depth Page h = refl
over-depth Line h = refl
over-depth Journal h = absurd (false≢true h)

-- a node lies one level under the one next above it
pub one-under : (n up : Node) → above_of n ≡ Some up → depth n.level ≡ depth up.level + 1
one-under n up e =
    subst (λ (l : Level). depth n.level ≡ depth l + 1) (sym (above-level n up e))
    (over-depth n.level (subst (λ (l : Level). is_above l n.level ≡ true) (above-level n up e) (contains-above up n (above-contains n up e))))

-- ---- steps

-- the steps at a node, by whether the want was asked there, and has its mode
abbrev pub steps_by : Bool → Bool → ℕ
steps_by asked has = if asked then (if has then 1 else 2) else 3

here-less : (asked had has : Bool) → (had ≡ true → has ≡ true) → steps_by asked has ≤ steps_by asked had
here-less false had has f = omega arith
here-less true true true f = omega arith
here-less true true false f = absurd (false≢true (f refl))
here-less true false true f = omega arith
here-less true false false f = omega arith

-- who holds more has no more steps to go
pub steps-less : (held more : Holding) → ((x : Node) → at_most (held x) (more x) ≡ true) → (o : Option OpenWant) → steps_for more o ≤ steps_for held o
steps-less held more up None = omega arith
steps-less held more up (Some w) =
    under (3 * (depth w.need.node.level - depth w.here.level)) (steps_here more w) (steps_here held w)
    (here-less w.is_asked (has_mode held w) (has_mode more w) (λ h. at_most-trans (mode_for w.need w.here) (held w.here) (more w.here) h (up w.here)))
  where
    under : (x a b : ℕ) → a ≤ b → x + a ≤ x + b
    under x a b h = omega arith

-- where a want was asked the same is held, so it has as many steps to go
pub steps-same : (held more : Holding) (o : Option OpenWant) → ((w : OpenWant) (x : Node) → o ≡ Some w → was_asked w x ≡ true → more x ≡ held x) → steps_for more o ≡ steps_for held o
steps-same held more None same = refl
steps-same held more (Some w) same =
    ap (λ (n : ℕ). 3 * (depth w.need.node.level - depth w.here.level) + n)
    (here-same w.is_asked (has_mode more w) (has_mode held w) (λ a. ap (at_most (mode_for w.need w.here)) (same w w.here refl (asked-at_here w w.here (same_node-refl w.here) a))))
  where
    here-same : (asked has had : Bool) → (asked ≡ true → has ≡ had) → steps_by asked has ≡ steps_by asked had
    here-same true has had f = ap (steps_by true) (f refl)
    here-same false has had f = refl

-- ---- locks that are stronger than they have to be

bounded : (held keep : Mode) → at_most held keep ≡ true → is_excess held keep ≡ false
bounded held keep h = ap (λ (b : Bool). at_most keep held && not b) h ∙ and-none (at_most keep held)

exact-not_spare : (held : Holding) (p : Party) (x : Node) → at_most (held x) (kept_at held p x) ≡ true → is_spare held p x ≡ false
exact-not_spare held p x h = bounded (held x) (kept_at held p x) h

opened-alike : (held more : Holding) (o : Option OpenWant) (x : Node) → more x ≡ held x → opened_at more o x ≡ opened_at held o x
opened-alike held more None x e = refl
opened-alike held more (Some w) x e =
    ap (λ (y : Mode). if contains x w.here || (same_node x w.here && (w.is_asked && at_most (mode_for w.need x) y)) then mode_for w.need x else NL) e

-- whether a lock is stronger than it has to be hangs on that lock alone
spare-alike : (held more : Holding) (p : Party) (x : Node) → more x ≡ held x → is_spare more p x ≡ is_spare held p x
spare-alike held more p x e =
    ap (λ (y : Mode). is_excess y (kept_at more p x)) e ∙ ap (λ (y : Mode). is_excess (held x) (must_keep p.needs y x)) (opened-alike held more p.opened x e)

module _ (held more : Holding) (p : Party) (level : Level) where
  over-most : ((x : Node) → depth x.level ≡ depth level → is_spare more p x ≡ true → is_spare held p x ≡ true) → (w : Need) → is_spare_over more p level w ≡ true → is_spare_over held p level w ≡ true
  over-most most w h = elim (cases_Bool (is_above level w.node.level)) [
    | inl t ↦
        let x : Node = on_way level w.node in
        let at : depth x.level ≡ depth level = ap depth (way-level level w.node.level w.node.area w.node.at w.node.line t) in
        pick true (is_above level w.node.level) (is_spare held p x) ((depth level == depth w.node.level) && is_spare held p w.node) t
        (most x at (chosen true (is_above level w.node.level) (is_spare more p x) ((depth level == depth w.node.level) && is_spare more p w.node) t h))
    | inr f ↦
        let s = and_parts (depth level == depth w.node.level) (is_spare more p w.node)
        (chosen false (is_above level w.node.level) (is_spare more p (on_way level w.node)) ((depth level == depth w.node.level) && is_spare more p w.node) f h) in
        pick false (is_above level w.node.level) (is_spare held p (on_way level w.node)) ((depth level == depth w.node.level) && is_spare held p w.node) f
        (and_from (depth level == depth w.node.level) (is_spare held p w.node) s.0 (most w.node (sym (eqb-true (depth level) (depth w.node.level) s.0)) s.1))
  ]
    where
      chosen : (c b x y : Bool) → b ≡ c → (if b then x else y) ≡ true → (if c then x else y) ≡ true
      chosen c b x y e h = subst (λ (d : Bool). (if d then x else y) ≡ true) e h

      pick : (c b x y : Bool) → b ≡ c → (if c then x else y) ≡ true → (if b then x else y) ≡ true
      pick c b x y e h = subst (λ (d : Bool). (if d then x else y) ≡ true) (sym e) h

  pub spares-most : ((x : Node) → depth x.level ≡ depth level → is_spare more p x ≡ true → is_spare held p x ≡ true) → count_by (is_spare_over more p level) p.needs ≤ count_by (is_spare_over held p level) p.needs
  spares-most most = count-most (is_spare_over more p level) (is_spare_over held p level) (over-most most) p.needs

level-itself : (l : Level) → (is_above (counted_at l) l ≡ false) × ((depth (counted_at l) == depth l) ≡ true)
level-itself Area = (refl, refl)
level-itself Range = (refl, refl)
level-itself Page = (refl, refl)
level-itself Line = (refl, refl)
level-itself Journal = (refl, refl)

level-counted : (l k : Level) → is_above l k ≡ true → counted_at l ≡ l
level-counted Area k h = refl
level-counted Range k h = refl
level-counted Page k h = refl
level-counted Line k h = refl
level-counted Journal k h = absurd (false≢true h)

-- over a need under a node, or on it, the lock of that level is the one at the node
over-at : (held : Holding) (p : Party) (n : Node) (w : Need) → is_on n w.node ≡ true → is_spare_over held p (counted_at n.level) w ≡ is_spare held p n
over-at held p n w on = elim (or_cases (same_node n w.node) (contains n w.node) on) [
  | inl s ↦ subst (λ (x : Node). is_spare_over held p (counted_at x.level) w ≡ is_spare held p x) (sym (same_node-true n w.node s)) here
  | inr c ↦
      let up : is_above n.level w.node.level ≡ true = contains-above n w.node c in
      ap (λ (l : Level). is_spare_over held p l w) (level-counted n.level w.node.level up)
      ∙ (ap (λ (b : Bool). if b then is_spare held p (on_way n.level w.node) else ((depth n.level == depth w.node.level) && is_spare held p w.node)) up
      ∙ ap (is_spare held p) (sym (contains-is n w.node c)))
]
  where
    here : is_spare_over held p (counted_at w.node.level) w ≡ is_spare held p w.node
    here =
        let l : Level = counted_at w.node.level in
        let e = level-itself w.node.level in
        ap (λ (b : Bool). if b then is_spare held p (on_way l w.node) else ((depth l == depth w.node.level) && is_spare held p w.node)) e.0
        ∙ ap (λ (b : Bool). b && is_spare held p w.node) e.1

-- ---- another owner, which was granted what it asked, or nothing

module _ (held more sought seeks : Holding) (p : Party) (either : (x : Node) → (more x ≡ held x) ⊎ (more x ≡ sought x)) (k : IsKeptBut nowhere held sought p) (next : IsKeptBut nowhere more seeks p) where
  pub served-spare : (x : Node) → is_spare more p x ≡ true → is_spare held p x ≡ true
  served-spare x h = elim (either x) [
    | inl e ↦ sym (spare-alike held more p x e) ∙ h
    | inr e ↦ elim (cases_Bool (sleeps_at held p.opened x)) [
      | inr awake ↦ sym (spare-alike held more p x (e ∙ k.awake x awake)) ∙ h
      | inl asleep ↦ from-asleep p.opened refl asleep
    ]
  ]
    where
      from-asleep : (o : Option OpenWant) → p.opened ≡ o → sleeps_at held o x ≡ true → is_spare held p x ≡ true
      from-asleep None eo s = absurd (false≢true s)
      from-asleep (Some w) eo s =
          let a = and_parts (same_node x w.here) (w.is_asked && not (at_most (mode_for w.need x) (held x))) s in
          let asked : was_asked w x ≡ true = asked-at_here w x a.0 (and_parts w.is_asked (not (at_most (mode_for w.need x) (held x))) a.1).0 in
          absurd (false≢true (sym (exact-not_spare more p x (next.exact x w eo asked)) ∙ h))

-- ---- the owner, whose lock at a node comes down to what must be kept

not-granted : (c s a b : Bool) → (c || (s && a)) ≡ false → (c || (s && (a && b))) ≡ false
not-granted true s a b h = h
not-granted false true true b h = absurd (false≢true (sym h))
not-granted false true false b h = refl
not-granted false false a b h = refl

module _ (held more sought : Holding) (p : Party) (n : Node) (k : IsKeptBut nowhere held sought p) (excess : is_spare held p n ≡ true)
    (least : more n ≡ kept_at held p n) (elsewhere : (x : Node) → is_on n x ≡ false → more x ≡ held x) where
  unasked : (w : OpenWant) → p.opened ≡ Some w → was_asked w n ≡ false
  unasked = excess-unasked held sought p n k excess

  -- where its want was asked nothing changed
  asked-elsewhere : (w : OpenWant) (x : Node) → p.opened ≡ Some w → was_asked w x ≡ true → more x ≡ held x
  asked-elsewhere w x e a = elsewhere x (elim (cases_Bool (is_on n x)) [
    | inr f ↦ f
    | inl t ↦ absurd (false≢true (sym (unasked w e) ∙ upward w x t a))
  ])
    where
      upward : (w : OpenWant) (x : Node) → is_on n x ≡ true → was_asked w x ≡ true → was_asked w n ≡ true
      upward w x on a = elim (or_cases (same_node n x) (contains n x) on) [
        | inl s ↦ subst (λ (z : Node). was_asked w z ≡ true) (sym (same_node-true n x s)) a
        | inr c ↦ elim (cases_Bool (was_asked w n)) [
          | inl t ↦ t
          | inr f ↦ absurd (false≢true (sym (asked-under w n x f c) ∙ a))
        ]
      ]

  pub down-steps : steps_for more p.opened ≡ steps_for held p.opened
  down-steps = steps-same held more p.opened asked-elsewhere

  pub down-exact : is_spare more p n ≡ false
  down-exact =
      exact-not_spare more p n
      (subst (λ (y : Mode). at_most y (kept_at more p n) ≡ true) (sym least)
      (subst (λ (y : Mode). at_most (kept_at held p n) (must_keep p.needs y n) ≡ true) (sym (opened-same held more p.opened asked-elsewhere n)) (at_most-refl (kept_at held p n))))

  -- at its level and above it, no lock is stronger than needed that wasn't before
  down-spare : (x : Node) → depth x.level ≤ depth n.level → is_spare more p x ≡ true → is_spare held p x ≡ true
  down-spare x d h = elim (cases_Bool (is_on n x)) [
    | inr f ↦ sym (spare-alike held more p x (elsewhere x f)) ∙ h
    | inl t ↦ elim (or_cases (same_node n x) (contains n x) t) [
      | inl s ↦ subst (λ (z : Node). is_spare held p z ≡ true) (same_node-true n x s) excess
      | inr c ↦
          let deep : depth n.level < depth x.level = contains-deeper n x c in
          absurd (omega arith)
    ]
  ]

  -- a lock that is stronger than it has to be stands on or above a need
  needed : is_needed p.needs n ≡ true
  needed = elim (k.no_stray n refl) [
    | inl none ↦ absurd (false≢true (sym (bounded NL (kept_at held p n) (nothing (kept_at held p n))) ∙ subst (λ (y : Mode). is_excess y (kept_at held p n) ≡ true) none excess))
    | inr r ↦ elim r [
      | inr y ↦ y
      | inl o ↦ absurd (false≢true (sym o ∙ subst (λ (y : Mode). at_most y NL ≡ true) (sym (none-opened p.opened refl)) refl))
    ]
  ]
    where
      none-opened : (o : Option OpenWant) → p.opened ≡ o → opened_at held o n ≡ NL
      none-opened None e = refl
      none-opened (Some w) e =
          ap (λ (b : Bool). if b then mode_for w.need n else NL) (not-granted (contains n w.here) (same_node n w.here) w.is_asked (at_most (mode_for w.need n) (held n)) (unasked w e))

  pub down-most : (level : Level) → depth level ≤ depth n.level → count_by (is_spare_over more p level) p.needs ≤ count_by (is_spare_over held p level) p.needs
  down-most level d = spares-most held more p level (λ x e h. down-spare x (subst (λ (m : ℕ). m ≤ depth n.level) (sym e) d) h)

  pub down-less : count_by (is_spare_over more p (counted_at n.level)) p.needs < count_by (is_spare_over held p (counted_at n.level)) p.needs
  down-less =
      count-less (is_spare_over more p (counted_at n.level)) (is_spare_over held p (counted_at n.level))
      (over-most held more p (counted_at n.level) (λ x e h. down-spare x (of-level n.level (depth x.level) e) h))
      (λ w. is_on n w.node)
      (λ w on. over-at more p n w on ∙ down-exact)
      (λ w on. over-at held p n w on ∙ excess)
      p.needs needed
    where
      of-level : (l : Level) (d : ℕ) → d ≡ depth (counted_at l) → d ≤ depth l
      of-level Area d e = omega arith
      of-level Range d e = omega arith
      of-level Page d e = omega arith
      of-level Line d e = omega arith
      of-level Journal d e = omega arith
