-- What the answers of single steps come to.
use Rattle.std.proofs.Common.{◌≡◌, ◌≢◌, ℕ, ◌≤◌, ◌<◌, true, false, List, [], ◌∷◌, ◌++◌, ◌⊎◌, inl, inr, refl, ap, ◌∙◌, subst, arith, eq-eqb, ◌==◌}
use Rattle.rdb_drive.specs.declared.driven.Step.{Step}
use Rattle.rdb_drive.specs.declared.driven.Step.TheVariants.{Compute, Moved, Asleep, Frozen, Ended}
use Rattle.rdb_drive.specs.Boards.{Mark, Says, Does, Other, answer_by, Board, AllOf, answers, answers_by, Below}
use Rattle.rdb_drive.specs.Steps.{IsQuiet, Recovers, StepOf, RecoveryOf, DeathOf}
use Rattle.rdb_drive.specs.Turns.{weight, Falls, Under, Within, GetsOn, Rests, CameOf, RecoverOf, EndsTurn, TurnOf, Midway}
use Rattle.rdb_drive.proofs.Boards.{answers-append, answers_by-append, of_both, nobodys_of, goes_on, below_falls, at_most_weight, gets_on_weight, gets_on_on, under_on, within_on}
use Rattle.rdb_drive.specs.declared.order.Came.{Came}
use Rattle.rdb_drive.specs.declared.order.Came.TheVariants.{Said, Went, Sleeps, Over, Halts}

pub recovered : {P : Type 0} (sessions s : ℕ) (old new : Board) (r : Step P) → r ≡ Moved → RecoveryOf sessions old new r → Under s old new × Falls old new
recovered sessions s old new r is e =
    let t = subst (λ q. Recovers old new q) is e.tells in
    let n = nobodys_of s e.more e.nobodys in
    (record { more = e.more; goes = e.goes; of_s = n.0; none = n.1 }, below_falls new.measure old.measure t)

pub computed : {P : Type 0} (sessions s : ℕ) (old new : Board) (p : P) → StepOf sessions s old new (Compute p) → Under s old new × Falls old new
computed sessions s old new p e =
    (record { more = e.more; goes = e.goes; of_s = e.of_s; none = e.tells.1 }, below_falls new.measure old.measure e.tells.0)

-- of s alone: every answer is one of s
pub all_by : (s : ℕ) (xs : List Mark) → AllOf s xs → answers xs ≡ answers_by s xs
all_by s [] p = refl
all_by s (Says t ∷ xs) p =
    let h = all_by s xs p.1 in
    let b : (t == s) ≡ true = eq-eqb t s p.0 in
    let one : answer_by s (Says t) ≡ 1 = rw b refl in
    omega (arith, h, one)
all_by s (Does t ∷ xs) p = let h = all_by s xs p.1 in omega arith
all_by s (Other ∷ xs) p = let h = all_by s xs p.1 in omega arith

-- it moved and the count of answers rose
pub said : {P : Type 0} (sessions s : ℕ) (old new : Board) → StepOf {P = P} sessions s old new Moved → answers_by s old.marks < answers_by s new.marks → Within s old new × Falls old new
said sessions s old new e lt =
    let a = ap (answers_by s) e.goes.marks ∙ answers_by-append s old.marks e.more in
    let b = all_by s e.more e.of_s in
    let one = e.tells.1 in
    (record { more = e.more; goes = e.goes; of_s = e.of_s; one = omega (arith, a, b, lt, one) }, below_falls new.measure old.measure e.tells.0)

-- it moved and the count of answers stood
pub went : {P : Type 0} (sessions s : ℕ) (old new : Board) → StepOf {P = P} sessions s old new Moved → answers_by s new.marks ≤ answers_by s old.marks → Under s old new × Falls old new
went sessions s old new e le =
    let a = ap (answers_by s) e.goes.marks ∙ answers_by-append s old.marks e.more in
    let b = all_by s e.more e.of_s in
    (record { more = e.more; goes = e.goes; of_s = e.of_s; none = omega (arith, a, b, le) }, below_falls new.measure old.measure e.tells.0)

pub slept : {P : Type 0} (sessions s : ℕ) (old new : Board) → StepOf {P = P} sessions s old new Asleep → Rests sessions s old new × (new.asleep s ≡ true) × (new.ended s ≡ false)
slept sessions s old new e = (
  record {
    under = record { more = e.more; goes = e.goes; of_s = e.of_s; none = e.tells.4 };
    rests_now = e.tells.0;
    gets_on = inr e.tells.3;
    awake = e.awake;
  },
  e.tells.1,
  e.tells.2,
)

pub over : {P : Type 0} (sessions s : ℕ) (old new : Board) → StepOf {P = P} sessions s old new Ended → Rests sessions s old new × (new.ended s ≡ true)
over sessions s old new e = (
  record {
    under = record { more = e.more; goes = e.goes; of_s = e.of_s; none = e.tells.3 };
    rests_now = e.tells.0;
    gets_on = inr e.tells.2;
    awake = e.awake;
  },
  e.goes.ended s e.tells.1,
)

-- somebody dead was found, and a recovery step moved
pub mourned : {P : Type 0} (sessions s : ℕ) (a b c : Board) → StepOf {P = P} sessions s a b Frozen → Under s b c × Falls b c → Under s a c × Falls a c
mourned sessions s a b c e r =
    let n = answers-append e.more r.0.more in
    let w = at_most_weight b.measure a.measure e.tells.1 in (
      record {
        more = e.more ++ r.0.more;
        goes = goes_on a b c e.more r.0.more e.goes r.0.goes;
        of_s = of_both s e.more r.0.more e.of_s r.0.of_s;
        none = omega (arith, n, e.tells.2, r.0.none);
      },
      omega (arith, w, r.1),
    )

pub mourns_came : {P : Type 0} (sessions s : ℕ) (a b c : Board) (r : Came) → StepOf {P = P} sessions s a b Frozen → RecoverOf s b c r → CameOf sessions s a c r
mourns_came sessions s a b c Said e q = absurd q
mourns_came sessions s a b c Went e q = mourned sessions s a b c e q
mourns_came sessions s a b c Sleeps e q = absurd q
mourns_came sessions s a b c Over e q = absurd q
mourns_came sessions s a b c Halts e q = q

pub rests_on : (sessions s : ℕ) (a b c : Board) → Midway s a b → Rests sessions s b c → Rests sessions s a c
rests_on sessions s a b c m r =
    record {
      under = under_on s a b c m.0 r.under;
      rests_now = r.rests_now;
      gets_on = gets_on_on s a b c m.1 r.gets_on;
      awake = r.awake;
    }

-- a step that ends a turn
pub turn_came : (sessions s : ℕ) (a b c : Board) (r : Came) → r ≢ Went → Midway s a b → CameOf sessions s b c r → EndsTurn sessions s a c r
turn_came sessions s a b c Said not_went m q = let w = gets_on_weight s a b m.1 in (within_on s a b c m.0 q.0, omega (arith, w, q.1))
turn_came sessions s a b c Went not_went m q = absurd (not_went refl)
turn_came sessions s a b c Sleeps not_went m q = (rests_on sessions s a b c m q.0, q.1, q.2)
turn_came sessions s a b c Over not_went m q = (rests_on sessions s a b c m q.0, q.1)
turn_came sessions s a b c Halts not_went m q = q

pub midway_went : (s : ℕ) (a b c : Board) → Midway s a b → Under s b c × Falls b c → Midway s a c
midway_went s a b c m q = (under_on s a b c m.0 q.0, gets_on_on s a b c m.1 (inl q.1))

pub midway_on : (s : ℕ) (a b c : Board) → Midway s a b → Midway s b c → Midway s a c
midway_on s a b c m q = (under_on s a b c m.0 q.0, gets_on_on s a b c m.1 q.1)

death_gets_on : (s : ℕ) (a b : Board) → Below b.measure a.measure ⊎ IsQuiet s a b → GetsOn s a b
death_gets_on s a b (inl l) = inl (below_falls b.measure a.measure l)
death_gets_on s a b (inr q) = inr q

pub died : (sessions s : ℕ) (a b : Board) → DeathOf sessions s a b → Midway s a b
died sessions s a b d = (record { more = d.more; goes = d.goes; of_s = d.of_s; none = d.none }, death_gets_on s a b d.less)

pub turn_goes_on : (sessions s : ℕ) (a b c d : Board) → Midway s a b → Midway s b c → CameOf sessions s c d Went → Midway s a d
turn_goes_on sessions s a b c d m n q = midway_went s a c d (midway_on s a b c m n) q

pub turn_falls : (sessions s : ℕ) (b c d : Board) → Midway s b c → CameOf sessions s c d Went → weight d.measure < weight b.measure
turn_falls sessions s b c d n q = let w = gets_on_weight s b c n.1 in let f = q.1 in omega (arith, w, f)

pub turn_ends : (sessions s : ℕ) (a b c d : Board) (r : Came) → r ≢ Went → Midway s a b → Midway s b c → CameOf sessions s c d r → TurnOf sessions s a d r
turn_ends sessions s a b c d r away m n q = record { ends = turn_came sessions s a c d r away (midway_on s a b c m n) q }
