-- Turns one after another.
use Rattle.std.proofs.lemmas.List.{append-nil}
use Rattle.std.proofs.Common.{◌≡◌, ◌≢◌, ℕ, zero, suc, ◌+◌, ◌≤◌, ◌<◌, Bool, true, false, List, [], ◌∷◌, ◌++◌, length, ◌⊎◌, inl, inr, refl, ap, sym, ◌∙◌, subst, arith, append_assoc, length-append, take, get_or}
use Rattle.std.proofs.lemmas.List.{take_more}
use Rattle.rdb_drive.specs.Boards.{Mark, Board}
use Rattle.rdb_drive.specs.Steps.{Goes, IsQuiet}
use Rattle.rdb_drive.specs.Orders.{upward, rounds, IsPart, AreParts, Keeps, KeepsOrder}
use Rattle.rdb_drive.specs.Turns.{weight, Falls, GetsOn, Rests, EndsTurn, TurnOf, InRound, IsStill, RoundOf, KeepsRests}
use Rattle.rdb_drive.specs.declared.order.Came.{Came}
use Rattle.rdb_drive.specs.declared.order.Came.TheVariants.{Said, Went, Sleeps, Over, Halts}
use Rattle.rdb_drive.proofs.Boards.{at_most_weight, at_most_trans}

-- who rests at lengths up to this one, rests there in the other too
abbrev pub Wider : ℕ → (ℕ → ℕ → Type 0) → (ℕ → ℕ → Type 0) → Type 0
Wider upto r q = (n s : ℕ) → n ≤ upto → r n s → q n s

-- parts stay parts, and one more goes behind them
pub parts_on : (r q : ℕ → ℕ → Type 0) (at : ℕ) (turns : List ℕ) (marks : List Mark) (s : ℕ) (part : List Mark)
    → Wider (at + length marks) r q → AreParts r at turns marks → IsPart q (at + length marks) s part → AreParts q at (turns ++ s ∷ []) (marks ++ part)
parts_on r q at [] marks s part w a p =
    let none : length marks ≡ 0 = ap length a in
    let here : at + length marks ≡ at = omega arith in
    let all : marks ++ part ≡ part = ap (λ m. m ++ part) a in
    (part, [], all ∙ sym (append-nil part), subst (λ n. IsPart q n s part) here p, refl)
parts_on r q at (t ∷ turns) marks s part w a p =
    let mine = a.0 in
    let rest = a.1 in
    let len = ap length a.2 ∙ length-append mine rest in
    let there : at + length marks ≡ (at + length mine) + length rest = omega (arith, len) in
    let low : at + length mine ≤ at + length marks = omega (arith, len) in (
      mine,
      rest ++ part,
      ap (λ m. m ++ part) a.2 ∙ append_assoc mine rest part,
      record { of_s = a.3.of_s; one = a.3.one; rests_there = λ none. w (at + length mine) t low (a.3.rests_there none) },
      parts_on r q (at + length mine) turns rest s part (subst (λ n. Wider n r q) there w) a.4 (subst (λ n. IsPart q n s part) there p),
    )

pub no_turn : (a : Board) → Keeps [] a a
no_turn a = record { added = []; marks = sym (append-nil a.marks); parts = refl }

-- one more turn
pub one_more : (turns : List ℕ) (s : ℕ) (a b c : Board) (part : List Mark) → Keeps turns a b → Goes b c part → IsPart c.rests (length b.marks) s part → Keeps (turns ++ s ∷ []) a c
one_more turns s a b c part k g p =
    let len = ap length k.marks ∙ length-append a.marks k.added in
    let there : length b.marks ≡ length a.marks + length k.added = omega (arith, len) in
    record {
      added = k.added ++ part;
      marks = g.marks ∙ (ap (λ m. m ++ part) k.marks ∙ append_assoc a.marks k.added part);
      parts = parts_on b.rests c.rests (length a.marks) turns k.added s part
          (subst (λ n. Wider n b.rests c.rests) there g.rests) k.parts (subst (λ n. IsPart c.rests n s part) there p);
    }

pub rest_part : (sessions s : ℕ) (b c : Board) (r : Rests sessions s b c) → IsPart c.rests (length b.marks) s r.under.more
rest_part sessions s b c r =
    let len = ap length r.under.goes.marks ∙ length-append b.marks r.under.more in
    let there : length c.marks ≡ length b.marks + length r.under.more = omega (arith, len) in
    let none = r.under.none in
    record { of_s = r.under.of_s; one = omega (arith, none); rests_there = λ z. subst (λ n. c.rests n s) there r.rests_now }

pub turn_more : (sessions : ℕ) (turns : List ℕ) (s : ℕ) (a b c : Board) (r : Came) → r ≢ Halts → Keeps turns a b → EndsTurn sessions s b c r → Keeps (turns ++ s ∷ []) a c
turn_more sessions turns s a b c Said go k t =
    one_more turns s a b c t.0.more k t.0.goes (record { of_s = t.0.of_s; one = (let o = t.0.one in omega (arith, o)); rests_there = λ z. absurd (let o = t.0.one in omega (arith, o, z)) })
turn_more sessions turns s a b c Went go k t = absurd t
turn_more sessions turns s a b c Sleeps go k t = one_more turns s a b c t.0.under.more k t.0.under.goes (rest_part sessions s b c t.0)
turn_more sessions turns s a b c Over go k t = one_more turns s a b c t.0.under.more k t.0.under.goes (rest_part sessions s b c t.0)
turn_more sessions turns s a b c Halts go k t = absurd (go refl)

-- one session more at the end
pub upward_snoc : (first n : ℕ) → upward first (suc n) ≡ upward first n ++ (first + n) ∷ []
upward_snoc first zero = ap (λ m. m ∷ []) (omega arith)
upward_snoc first (suc n) =
    let h = upward_snoc (first + 1) n in
    let e : (first + 1) + n ≡ first + suc n = omega arith in
    ap (λ m. first ∷ m) (h ∙ ap (λ k. upward (first + 1) n ++ k ∷ []) e)

pub rounds_snoc : (sessions n : ℕ) → rounds sessions (suc n) ≡ rounds sessions n ++ upward 1 sessions
rounds_snoc sessions zero = append-nil (upward 1 sessions)
rounds_snoc sessions (suc n) = ap (λ m. upward 1 sessions ++ m) (rounds_snoc sessions n) ∙ sym (append_assoc (upward 1 sessions) (rounds sessions n) (upward 1 sessions))

-- a round behind other turns
pub parts_both : (r q : ℕ → ℕ → Type 0) (at : ℕ) (turns more : List ℕ) (marks added : List Mark)
    → Wider (at + length marks) r q → AreParts r at turns marks → AreParts q (at + length marks) more added → AreParts q at (turns ++ more) (marks ++ added)
parts_both r q at [] more marks added w a p =
    let none : length marks ≡ 0 = ap length a in
    let here : at + length marks ≡ at = omega arith in
    let all : added ≡ marks ++ added = sym (ap (λ m. m ++ added) a) in
    subst (λ m. AreParts q at more m) all (subst (λ n. AreParts q n more added) here p)
parts_both r q at (t ∷ turns) more marks added w a p =
    let mine = a.0 in
    let rest = a.1 in
    let len = ap length a.2 ∙ length-append mine rest in
    let there : at + length marks ≡ (at + length mine) + length rest = omega (arith, len) in
    let low : at + length mine ≤ at + length marks = omega (arith, len) in (
      mine,
      rest ++ added,
      ap (λ m. m ++ added) a.2 ∙ append_assoc mine rest added,
      record { of_s = a.3.of_s; one = a.3.one; rests_there = λ none. w (at + length mine) t low (a.3.rests_there none) },
      parts_both r q (at + length mine) turns more rest added (subst (λ n. Wider n r q) there w) a.4 (subst (λ n. AreParts q n more added) there p),
    )

pub keeps_both : (turns more : List ℕ) (a b c : Board) → Keeps turns a b → Keeps more b c → Wider (length b.marks) b.rests c.rests → Keeps (turns ++ more) a c
keeps_both turns more a b c k l w =
    let len = ap length k.marks ∙ length-append a.marks k.added in
    let there : length b.marks ≡ length a.marks + length k.added = omega (arith, len) in
    record {
      added = k.added ++ l.added;
      marks = l.marks ∙ (ap (λ m. m ++ l.added) k.marks ∙ append_assoc a.marks k.added l.added);
      parts = parts_both b.rests c.rests (length a.marks) turns more k.added l.added
          (subst (λ n. Wider n b.rests c.rests) there w) k.parts (subst (λ n. AreParts c.rests n more l.added) there l.parts);
    }

pub keeps_rests_on : (a b c : Board) (part : List Mark) → KeepsRests a b → (more : List Mark) → b.marks ≡ a.marks ++ more → Goes b c part → KeepsRests a c
keeps_rests_on a b c part k more e g n s le r =
    let len = ap length e ∙ length-append a.marks more in
    g.rests n s (omega (arith, len, le)) (k n s le r)

later : (s n : ℕ) → (s ≡ suc n) ⊎ (s ≤ n) → (suc s ≡ suc (suc n)) ⊎ (suc s ≤ suc n)
later s n (inl e) = inl (ap (λ k. suc k) e)
later s n (inr l) = inr (omega (arith, l))

last_or_less : (s n : ℕ) → s ≤ suc n → (s ≡ suc n) ⊎ (s ≤ n)
last_or_less zero n le = inr (omega arith)
last_or_less (suc s) zero le = inl (omega (arith, le))
last_or_less (suc s) (suc n) le = later s n (last_or_less s n (omega (arith, le)))

still_weight : (sessions turns : ℕ) (over : Bool) (a b : Board) → Falls a b ⊎ IsStill sessions turns over a b → weight b.measure ≤ weight a.measure
still_weight sessions turns over a b (inl f) = omega (arith, f)
still_weight sessions turns over a b (inr q) = at_most_weight b.measure a.measure q.measure

all_over : (turns : ℕ) (b c : Board) (part : List Mark) → Goes b c part → c.ended (suc turns) ≡ true → ((s : ℕ) → 1 ≤ s → s ≤ turns → b.ended s ≡ true) → (s : ℕ) → 1 ≤ s → s ≤ suc turns → c.ended s ≡ true
all_over turns b c part g e all s low high =
    elim (last_or_less s turns high) [ inl last ↦ subst (λ k. c.ended k ≡ true) (sym last) e | inr less ↦ g.ended s (all s low less) ]

still_one : (turns : ℕ) (b c : Board) (part : List Mark) (s : ℕ) → s ≤ turns → Goes b c part → IsQuiet (suc turns) b c → (b.asleep s ≡ true) ⊎ (b.ended s ≡ true) → (c.asleep s ≡ true) ⊎ (c.ended s ≡ true)
still_one turns b c part s le g q (inl a) = inl (q.asleep s (λ e. absurd (omega (arith, e, le))) a)
still_one turns b c part s le g q (inr d) = inr (g.ended s d)

still_all : (turns : ℕ) (b c : Board) (part : List Mark) → Goes b c part → IsQuiet (suc turns) b c → (c.asleep (suc turns) ≡ true) ⊎ (c.ended (suc turns) ≡ true)
    → ((s : ℕ) → 1 ≤ s → s ≤ turns → (b.asleep s ≡ true) ⊎ (b.ended s ≡ true)) → (s : ℕ) → 1 ≤ s → s ≤ suc turns → (c.asleep s ≡ true) ⊎ (c.ended s ≡ true)
still_all turns b c part g q here all s low high =
    elim (last_or_less s turns high) [
      | inl last ↦ subst (λ k. (c.asleep k ≡ true) ⊎ (c.ended k ≡ true)) (sym last) here
      | inr less ↦ still_one turns b c part s less g q (all s low less)
    ]

no_truth : {A : Type 0} → false ≡ true → A
no_truth e = absurd (cc e)

slept_still : (sessions turns : ℕ) (over : Bool) (a b c : Board) → Falls a b ⊎ IsStill sessions turns over a b → (r : Rests sessions (suc turns) b c) → GetsOn (suc turns) b c → c.asleep (suc turns) ≡ true → c.ended (suc turns) ≡ false → Falls a c ⊎ IsStill sessions (suc turns) false a c
slept_still sessions turns over a b c p r (inl f) asleep ended = let w = still_weight sessions turns over a b p in inl (omega (arith, w, f))
slept_still sessions turns over a b c (inl f) r (inr q) asleep ended = let w = at_most_weight c.measure b.measure q.measure in inl (omega (arith, w, f))
slept_still sessions turns over a b c (inr st) r (inr q) asleep ended =
    inr (record {
      measure = at_most_trans c.measure b.measure a.measure q.measure st.measure;
      still = still_all turns b c r.under.more r.under.goes q (inl asleep) st.still;
      sleeper = λ no_one. (suc turns, omega arith, omega arith, ended);
      awake = λ some. r.awake;
    })

over_still : (sessions turns : ℕ) (over : Bool) (a b c : Board) → Falls a b ⊎ IsStill sessions turns over a b → (r : Rests sessions (suc turns) b c) → GetsOn (suc turns) b c → c.ended (suc turns) ≡ true → Falls a c ⊎ IsStill sessions (suc turns) over a c
over_still sessions turns over a b c p r (inl f) ended = let w = still_weight sessions turns over a b p in inl (omega (arith, w, f))
over_still sessions turns over a b c (inl f) r (inr q) ended = let w = at_most_weight c.measure b.measure q.measure in inl (omega (arith, w, f))
over_still sessions turns over a b c (inr st) r (inr q) ended =
    inr (record {
      measure = at_most_trans c.measure b.measure a.measure q.measure st.measure;
      still = still_all turns b c r.under.more r.under.goes q (inr ended) st.still;
      sleeper = λ some. (let z = st.sleeper some in
          (z.0, z.1, (let le = z.2 in omega (arith, le)), q.ended z.0 (λ e. absurd (let le = z.2 in omega (arith, e, le))) ∙ z.3));
      awake = λ some. r.awake;
    })

snoc_up : (turns : ℕ) (a c : Board) → Keeps (upward 1 turns ++ suc turns ∷ []) a c → Keeps (upward 1 (suc turns)) a c
snoc_up turns a c k =
    let e : upward 1 (suc turns) ≡ upward 1 turns ++ suc turns ∷ [] = upward_snoc 1 turns ∙ ap (λ n. upward 1 turns ++ n ∷ []) (let f : 1 + turns ≡ suc turns = omega arith in f) in
    subst (λ t. Keeps t a c) (sym e) k

-- a turn in which the session has ended
pub round_over : (sessions turns : ℕ) (over : Bool) (a b c : Board) → InRound sessions turns over a b → EndsTurn sessions (suc turns) b c Over → InRound sessions (suc turns) over a c
round_over sessions turns over a b c i t =
    record {
      keeps = snoc_up turns a c (turn_more sessions (upward 1 turns) (suc turns) a b c Over (λ e. absurd (cc e)) i.keeps t);
      rests = keeps_rests_on a b c t.0.under.more i.rests i.keeps.added i.keeps.marks t.0.under.goes;
      over = λ all. all_over turns b c t.0.under.more t.0.under.goes t.1 (i.over all);
      gets_on = over_still sessions turns over a b c i.gets_on t.0 t.0.gets_on t.1;
    }

pub round_slept : (sessions turns : ℕ) (over : Bool) (a b c : Board) → InRound sessions turns over a b → EndsTurn sessions (suc turns) b c Sleeps → InRound sessions (suc turns) false a c
round_slept sessions turns over a b c i t =
    record {
      keeps = snoc_up turns a c (turn_more sessions (upward 1 turns) (suc turns) a b c Sleeps (λ e. absurd (cc e)) i.keeps t);
      rests = keeps_rests_on a b c t.0.under.more i.rests i.keeps.added i.keeps.marks t.0.under.goes;
      over = no_truth;
      gets_on = slept_still sessions turns over a b c i.gets_on t.0 t.0.gets_on t.1 t.2;
    }

pub round_said : (sessions turns : ℕ) (over : Bool) (a b c : Board) → InRound sessions turns over a b → EndsTurn sessions (suc turns) b c Said → InRound sessions (suc turns) false a c
round_said sessions turns over a b c i t =
    let w = still_weight sessions turns over a b i.gets_on in
    let f = t.1 in
    record {
      keeps = snoc_up turns a c (turn_more sessions (upward 1 turns) (suc turns) a b c Said (λ e. absurd (cc e)) i.keeps t);
      rests = keeps_rests_on a b c t.0.more i.rests i.keeps.added i.keeps.marks t.0.goes;
      over = no_truth;
      gets_on = inl (omega (arith, w, f));
    }

-- any turn that doesn't halt and in which the session hasn't ended
pub round_on : (sessions turns : ℕ) (over : Bool) (a b c : Board) (r : Came) → r ≢ Halts → r ≢ Over → InRound sessions turns over a b → EndsTurn sessions (suc turns) b c r → InRound sessions (suc turns) false a c
round_on sessions turns over a b c Said go on i t = round_said sessions turns over a b c i t
round_on sessions turns over a b c Went go on i t = absurd t
round_on sessions turns over a b c Sleeps go on i t = round_slept sessions turns over a b c i t
round_on sessions turns over a b c Over go on i t = absurd (on refl)
round_on sessions turns over a b c Halts go on i t = absurd (go refl)

pub round_begins : (sessions : ℕ) (a : Board) → InRound sessions 0 true a a
round_begins sessions a =
    record {
      keeps = no_turn a;
      rests = λ n s le r. r;
      over = λ t s low high. absurd (omega (arith, low, high));
      gets_on = inr (record {
        measure = inl refl;
        still = λ s low high. absurd (omega (arith, low, high));
        sleeper = λ e. absurd (cc e);
        awake = λ z. absurd (omega (arith, z));
      });
    }

nobody_left : {A : Type 0} (sessions : ℕ) (a b : Board) → IsStill sessions sessions false a b → A
nobody_left sessions a b st =
    let z = st.sleeper refl in
    let low = z.1 in
    let high = z.2 in
    let u = st.awake (omega (arith, low, high)) z.0 (low, high) z.3 in
    elim (st.still u.0 u.1.0 u.1.1) [ inl asleep ↦ no_truth (sym u.3 ∙ asleep) | inr ended ↦ no_truth (sym u.2 ∙ ended) ]

pub round_went : (sessions : ℕ) (a b : Board) → InRound sessions sessions false a b → RoundOf sessions a b Went
round_went sessions a b i = (i.keeps, i.rests, elim i.gets_on [ inl f ↦ f | inr st ↦ nobody_left sessions a b st ])

pub round_is_over : (sessions : ℕ) (a b : Board) → InRound sessions sessions true a b → RoundOf sessions a b Over
round_is_over sessions a b i = (i.keeps, i.rests, i.over refl)

pub over_on : (sessions turns next : ℕ) → next ≡ suc turns → (over later_over : Bool) → later_over ≡ over → (a b c : Board) (r : Came) → r ≡ Over → InRound sessions turns over a b → TurnOf sessions next b c r → InRound sessions next later_over a c
over_on sessions turns next e over later_over o a b c r is i t =
    let there = subst (λ n. EndsTurn sessions n b c Over) e (subst (λ q. EndsTurn sessions next b c q) is t.ends) in
    subst (λ n. InRound sessions n later_over a c) (sym e) (subst (λ v. InRound sessions (suc turns) v a c) (sym o) (round_over sessions turns over a b c i there))

pub not_over_on : (sessions turns next : ℕ) → next ≡ suc turns → (over later_over : Bool) → later_over ≡ false → (a b c : Board) (r : Came) → r ≢ Halts → r ≢ Over → InRound sessions turns over a b → TurnOf sessions next b c r → InRound sessions next later_over a c
not_over_on sessions turns next e over later_over o a b c r go on i t =
    let there = subst (λ n. EndsTurn sessions n b c r) e t.ends in
    subst (λ n. InRound sessions n later_over a c) (sym e) (subst (λ v. InRound sessions (suc turns) v a c) (sym o) (round_on sessions turns over a b c r go on i there))

pub order_begins : (order : List ℕ) (sessions : ℕ) (a b : Board) → Keeps order a b → KeepsOrder order sessions a b
order_begins order sessions a b k = record { times = 0; keeps = subst (λ t. Keeps t a b) (sym (append-nil order)) k }

pub order_on : (order : List ℕ) (sessions : ℕ) (a b c : Board) → KeepsOrder order sessions a b → Keeps (upward 1 sessions) b c → KeepsRests b c → KeepsOrder order sessions a c
order_on order sessions a b c k l w =
    let both = keeps_both (order ++ rounds sessions k.times) (upward 1 sessions) a b c k.keeps l w in
    let e : order ++ rounds sessions (suc k.times) ≡ (order ++ rounds sessions k.times) ++ upward 1 sessions =
    ap (λ t. order ++ t) (rounds_snoc sessions k.times) ∙ sym (append_assoc order (rounds sessions k.times) (upward 1 sessions)) in
    record { times = suc k.times; keeps = subst (λ t. Keeps t a c) (sym e) both }

pub went_round : (sessions : ℕ) (a b : Board) (r : Came) → r ≢ Halts → r ≢ Over → RoundOf sessions a b r → RoundOf sessions a b Went
went_round sessions a b Said go on q = absurd q
went_round sessions a b Went go on q = q
went_round sessions a b Sleeps go on q = absurd q
went_round sessions a b Over go on q = absurd (on refl)
went_round sessions a b Halts go on q = absurd (go refl)

pub order_more : (order : List ℕ) (sessions i s : ℕ) (a b c : Board) (r : Came) → i < length order → s ≡ get_or order i 0 → r ≢ Halts → Keeps (take i order) a b → TurnOf sessions s b c r → Keeps (take (i + 1) order) a c
order_more order sessions i s a b c r le e go k t =
    let there = subst (λ n. EndsTurn sessions n b c r) e t.ends in
    rw (take_more order i 0 le) (turn_more sessions (take i order) (get_or order i 0) a b c r go k there)
