-- Calls one behind another, calls that are related otherwise, and none at all.
use Rattle.std.proofs.Common.{◌≡◌, ◌≤◌, ◌==◌, ◌⊎◌, inl, inr, ℕ, Bool, true, false, Option, Some, None, refl, sym, ap, subst, ◌∙◌, arith}
use Rattle.std.proofs.lemmas.Option.{none-some}
use Rattle.std.proofs.lemmas.Bool.{eqb-true}
use Rattle.line_view.specs.Knowledge.{Lines}
use Rattle.line_view.specs.Writes.{laid_all}
use Rattle.line_store.specs.Seats.{Seat, in_flight, copied_at, begun}
use Rattle.line_store.specs.Shelves.{Shelf}
use Rattle.line_store.specs.Calls.{Moves, Lasts, MayStand}
use Rattle.line_store.specs.Sights.{Sight, Behind, Does, bare, copier_behind}
use Rattle.line_store.proofs.Begun.{begun-same, begun-there, copier-as, copier-none}

-- ---- no call, and another relation

pub lasts-still : (left : ℕ → Lines → Type 0) (h : Shelf) → Lasts left left h h
lasts-still left h = record { since = λ t lines early is. inl is }

-- where the store stays, each shelf that is shown is related to itself
pub does-nothing : (s : ℕ) (R : Shelf → Shelf → Type 0) (sight : Sight) → ((h : Shelf) → sight.shows h → R h h) → Does s (sight.stand s) R sight sight
does-nothing s R sight all = record {
  mine = refl;
  others = λ t apart. refl;
  steps = λ t apart. refl;
  copier = λ n. sym (copier-none s (begun (sight.stand s) (sight.stand s)) sight.copier n (begun-same (copied_at (sight.stand s))));
  each = λ h shown. record { shelf = h; shown = shown; related = all h shown; lasts = lasts-still sight.left h; opens = λ t early was. was; backed = λ n t lines early apart was. was };
}

-- what is related so, is related otherwise
pub does-as : (s : ℕ) (there : Seat) (R Q : Shelf → Shelf → Type 0) (old new : Sight) → ((h g : Shelf) → old.shows h → new.shows g → R h g → Q h g) → Does s there R old new → Does s there Q old new
does-as s there R Q old new all does = record {
  mine = does.mine;
  others = does.others;
  steps = does.steps;
  copier = does.copier;
  each = λ h shown. let it : Behind old new (begun (old.stand s) there) R h = does.each h shown in
      record { shelf = it.shelf; shown = it.shown; related = all h it.shelf shown it.shown it.related; lasts = it.lasts; opens = it.opens; backed = it.backed };
}

-- what comes to a seat, comes to one that is shown alike
pub does-there : (s : ℕ) (a b : Seat) (R : Shelf → Shelf → Type 0) (old new : Sight) → bare a ≡ bare b → Does s a R old new → Does s b R old new
does-there s a b R old new same does = record {
  mine = does.mine ∙ same;
  others = does.others;
  steps = does.steps;
  copier = λ n. does.copier n ∙ ap (λ (number : Option ℕ). copier_behind s number old.copier n) begins;
  each = λ h shown. subst (λ (number : Option ℕ). Behind old new number R h) begins (does.each h shown);
}
  where
    begins : begun (old.stand s) a ≡ begun (old.stand s) b
    begins = begun-there (old.stand s) a b same

-- ---- two calls

-- What may stand between two calls has to be what may stand before both, or behind both.
pub lasts-in-turn : (a b c : ℕ → Lines → Type 0) (h m g : Shelf) → h.clock.time ≤ m.clock.time → ((lines : Lines) → MayStand m lines → MayStand h lines ⊎ MayStand g lines) → Lasts a b h m → Lasts b c m g → Lasts a c h g
lasts-in-turn a b c h m g later between first then = record { since = λ t lines early is. by t lines early (then.since t lines (omega (arith, early, later)) is) }
  where
    among : (t : ℕ) (lines : Lines) → a t lines ⊎ (MayStand h lines ⊎ MayStand m lines) → a t lines ⊎ (MayStand h lines ⊎ MayStand g lines)
    among t lines (inl left) = inl left
    among t lines (inr (inl before)) = inr (inl before)
    among t lines (inr (inr mid)) = inr (between lines mid)

    by : (t : ℕ) (lines : Lines) → t ≤ h.clock.time → b t lines ⊎ (MayStand m lines ⊎ MayStand g lines) → a t lines ⊎ (MayStand h lines ⊎ MayStand g lines)
    by t lines early (inl left) = among t lines (first.since t lines early left)
    by t lines early (inr (inl mid)) = inr (between lines mid)
    by t lines early (inr (inr behind)) = inr (inr behind)

-- The first call begins no backup, and the second begins the same as if it were alone.
pub does-in-turn : (s : ℕ) (there end : Seat) (R Q P : Shelf → Shelf → Type 0) (a b c : Sight) →
    ((h m : Shelf) → R h m → h.clock.time ≤ m.clock.time) →
    ((h m g : Shelf) → R h m → Q m g → (lines : Lines) → MayStand m lines → MayStand h lines ⊎ MayStand g lines) →
    ((h m g : Shelf) → R h m → Q m g → P h g) →
    begun (a.stand s) there ≡ None → begun (b.stand s) end ≡ begun (a.stand s) end →
    Does s there R a b → Does s end Q b c → Does s end P a c
does-in-turn s there end R Q P a b c later between both none alike first then = record {
  mine = then.mine;
  others = λ t apart. then.others t apart ∙ first.others t apart;
  steps = λ t apart. then.steps t apart ∙ first.steps t apart;
  copier = λ n. then.copier n ∙ ap (λ (number : Option ℕ). copier_behind s number b.copier n) alike
      ∙ copier-as s (begun (a.stand s) end) b.copier a.copier n (first.copier n ∙ copier-none s (begun (a.stand s) there) a.copier n none);
  each = λ h shown. let m : Behind a b (begun (a.stand s) there) R h = first.each h shown in
      let g : Behind b c (begun (b.stand s) end) Q m.shelf = then.each m.shelf m.shown in
      record {
        shelf = g.shelf;
        shown = g.shown;
        related = both h m.shelf g.shelf m.related g.related;
        lasts = lasts-in-turn a.left b.left c.left h m.shelf g.shelf (later h m.shelf m.related) (between h m.shelf g.shelf m.related g.related) m.lasts g.lasts;
        opens = λ t early was. g.opens t (let le = later h m.shelf m.related in omega (arith, early, le)) (m.opens t early was);
        backed = λ n t lines early apart was. g.backed n t lines (let le = later h m.shelf m.related in omega (arith, early, le)) (λ e. apart (sym alike ∙ e))
            (m.backed n t lines early (λ e. none-some n (sym none ∙ e)) was);
      };
}

-- ---- moves

pub moves-in-turn : (s : ℕ) (there end : Seat) (h m g : Shelf) → Moves s there h m → Moves s end m g → Moves s end h g
moves-in-turn s there end h m g first then = record {
  now = then.now ∙ first.now;
  mine = then.mine;
  others = record {
    seat = λ t apart. then.others.seat t apart ∙ first.others.seat t apart;
    steps = λ t apart. then.others.steps t apart ∙ first.others.steps t apart;
    later = record { later = omega (arith, first.others.later.later, then.others.later.later); no_fewer = omega (arith, first.others.later.no_fewer, then.others.later.no_fewer) };
  };
  space = record {
    limits = then.space.limits ∙ first.space.limits;
    taken = λ file page. then.space.taken file page ∙ first.space.taken file page;
    snaps = omega (arith, first.space.snaps, then.space.snaps);
    slots = omega (arith, first.space.slots, then.space.slots);
  };
}

-- a move to a seat whose commit isn't under way leaves nothing more that may stand
pub moves-stand : (s : ℕ) (seat : Seat) (h m : Shelf) → Moves s seat h m → in_flight seat ≡ None → (lines : Lines) → MayStand m lines → MayStand h lines
moves-stand s seat h m moves none lines (inl is) = inl (is ∙ moves.now)
moves-stand s seat h m moves none lines (inr flies) = inr (flies.0, flies.1, by (flies.0 == s) refl, flies.3 ∙ ap (laid_all flies.1) moves.now)
  where
    by : (b : Bool) → (flies.0 == s) ≡ b → in_flight (h.seat flies.0) ≡ Some flies.1
    by true equal = absurd (none-some flies.1 (sym none ∙ (sym (ap in_flight moves.mine) ∙ (ap (λ t. in_flight (m.seat t)) (sym (eqb-true flies.0 s equal)) ∙ flies.2))))
    by false apart = sym (ap in_flight (moves.others.seat flies.0 apart)) ∙ flies.2

-- a call behind a move that begins no commit
pub does-behind-move : (s : ℕ) (there end : Seat) (R Q P : Shelf → Shelf → Type 0) (seat : Shelf → Seat) (a b c : Sight) →
    ((h m : Shelf) → R h m → Moves s (seat h) h m) →
    ((h : Shelf) → in_flight (seat h) ≡ None) →
    ((h m g : Shelf) → R h m → Q m g → P h g) →
    begun (a.stand s) there ≡ None → begun (b.stand s) end ≡ begun (a.stand s) end →
    Does s there R a b → Does s end Q b c → Does s end P a c
does-behind-move s there end R Q P seat a b c moves none both = does-in-turn s there end R Q P a b c
    (λ h m is. (moves h m is).others.later.later)
    (λ h m g is next lines stands. inl (moves-stand s (seat h) h m (moves h m is) (none h) lines stands))
    both
