-- Where the scripts of RDO stand.
use Rattle.std.proofs.Common.{◌≡◌, ◌≤◌, ◌+◌, ◌-◌, ◌&&◌, ℕ, Bool, true, false, nat_le, List, [], ◌∷◌, length, take, drop, get_or, Option, Some, None, arith, refl, sym, subst, ◌∙◌, cond}
use Rattle.std.proofs.lemmas.Bool.{and_parts}
use Rattle.std.proofs.lemmas.Bool.Decides.{nat_tests}
use Rattle.std.proofs.lemmas.Grind.{common_steps}
use Rattle.command_words.specs.Deaths.{behind_colon, death_by, death_in, death_of, point_of}
use Rattle.command_words.specs.Options.{number_in, are_number}
use Rattle.command_words.specs.Bytes.{digits_from}
use Rattle.command_words.specs.Orders.{is_order}
use Rattle.command_words.specs.Words.{is_database, order_text, death_text, scripts_at, with_order, with_death, dying, behind_order, behind_death, rdo_from, rdo_words, first_word, AreLast, MayBeOf}
use Rattle.command_words.specs.declared.deaths.Death.{Death}
use Rattle.command_words.specs.declared.deaths.DeathPoint.{DeathPoint}
use Rattle.command_words.specs.declared.words.Scripts.{Scripts}

-- what is known of scripts of which the first stands at this place
record ArePlaced (first : ℕ) (has_order : Bool) (ds : List (List ℕ)) (s : Scripts) : Type 0 where
  at : s.first ≡ first
  some : 1 ≤ s.count
  few : s.count ≤ 16
  order : s.has_order ≡ has_order
  death : MayBeOf s.count s.death
  all : 1 + s.count ≡ length ds

taken : (b : Bool) (x y : Scripts) → cond b (Some x) None ≡ Some y → (b ≡ true) × (x ≡ y)
taken true x y e = (refl, cc)
taken false x y e = cc

placed_if : (first : ℕ) (has_order b : Bool) (d : List ℕ) (scripts : List (List ℕ)) (s : Scripts) →
    cond (b && (nat_le 1 (length scripts) && nat_le (length scripts) 16)) (Some (record { first = first; count = length scripts; has_order = has_order; death = None })) None ≡ Some s →
    ArePlaced first has_order (d ∷ scripts) s
placed_if first has_order b d scripts s e =
    let made : Scripts = record { first = first; count = length scripts; has_order = has_order; death = None } in
    let t = taken (b && (nat_le 1 (length scripts) && nat_le (length scripts) 16)) made s e in
    let n = and_parts (nat_le 1 (length scripts)) (nat_le (length scripts) 16) (and_parts b (nat_le 1 (length scripts) && nat_le (length scripts) 16) t.0).1 in
    subst (λ (x : Scripts). ArePlaced first has_order (d ∷ scripts) x) t.1 (record {
      at = refl;
      some = grind (arith, nat_tests, n.0);
      few = grind (arith, nat_tests, n.1);
      order = refl;
      death = tt;
      all = omega arith;
    })

placed : (first : ℕ) (has_order : Bool) (ds : List (List ℕ)) (s : Scripts) → scripts_at first has_order ds ≡ Some s → ArePlaced first has_order ds s
placed first has_order [] s e = cc
placed first has_order (d ∷ scripts) s e = placed_if first has_order (is_database d) d scripts s e

ordered : (order : List ℕ) (found : Option Scripts) (s : Scripts) → with_order order found ≡ Some s → found ≡ Some s
ordered order None s e = e
ordered order (Some t) s e = elim (is_order t.count order) as (λ b. cond b (Some t) None ≡ Some s → Some t ≡ Some s) [ true ↦ λ h. h | false ↦ λ h. cc ] e

-- ---- deaths

some-number : (low high : ℕ) (ds : List ℕ) (n : ℕ) → number_in low high ds ≡ Some n → (low ≤ n) × (n ≤ high)
some-number low high ds n e = by (are_number ds && (nat_le low (digits_from 0 ds) && nat_le (digits_from 0 ds) high)) refl e
  where
    by : (b : Bool) → (are_number ds && (nat_le low (digits_from 0 ds) && nat_le (digits_from 0 ds) high)) ≡ b → cond b (Some (digits_from 0 ds)) None ≡ Some n → (low ≤ n) × (n ≤ high)
    by true h k =
        let r = and_parts (nat_le low (digits_from 0 ds)) (nat_le (digits_from 0 ds) high) (and_parts (are_number ds) (nat_le low (digits_from 0 ds) && nat_le (digits_from 0 ds) high) h).1 in
        let same : digits_from 0 ds ≡ n = cc in
        (subst (λ (x : ℕ). low ≤ x) same (grind (arith, nat_tests, r.0)), subst (λ (x : ℕ). x ≤ high) same (grind (arith, nat_tests, r.1)))
    by false h k = cc

death-of : (sessions : ℕ) (word : List ℕ) (s : Option ℕ) (at : Option DeathPoint) → number_in 1 sessions word ≡ s → MayBeOf sessions (death_of s at)
death-of sessions word None at e = tt
death-of sessions word (Some n) None e = tt
death-of sessions word (Some n) (Some at) e = some-number 1 sessions word n e

death-by : (sessions : ℕ) (text : List ℕ) (rest : Option (List ℕ)) → MayBeOf sessions (death_by sessions text rest)
death-by sessions text None = tt
death-by sessions text (Some p) = death-of sessions (take (length text - length p - 1) text) (number_in 1 sessions (take (length text - length p - 1) text)) (point_of p) refl

dies : (t s : Scripts) (found : Option Death) → dying t found ≡ Some s → MayBeOf t.count found → (s.first ≡ t.first) × (s.count ≡ t.count) × (s.has_order ≡ t.has_order) × MayBeOf s.count s.death
dies t s None e h = cc
dies t s (Some death) e h = by (record t { death = Some death }) refl e
  where
    by : (u : Scripts) → record t { death = Some death } ≡ u → Some u ≡ Some s → (s.first ≡ t.first) × (s.count ≡ t.count) × (s.has_order ≡ t.has_order) × MayBeOf s.count s.death
    by u is same =
        let here : u ≡ s = cc in
        subst (λ (x : Scripts). (x.first ≡ t.first) × (x.count ≡ t.count) × (x.has_order ≡ t.has_order) × MayBeOf x.count x.death) (is ∙ here) (refl, refl, refl, h)

-- where they stand with a death
died : (first : ℕ) (has_order : Bool) (ds : List (List ℕ)) (text : List ℕ) (found : Option Scripts) (s : Scripts) → ((t : Scripts) → found ≡ Some t → ArePlaced first has_order ds t) → with_death text found ≡ Some s → ArePlaced first has_order ds s
died first has_order ds text None s all e = cc
died first has_order ds text (Some t) s all e =
    let p = all t refl in
    let d = dies t s (death_in t.count text) e (death-by t.count text (behind_colon text)) in
    record {
      at = d.0 ∙ p.at;
      some = subst (λ (n : ℕ). 1 ≤ n) (sym d.1) p.some;
      few = subst (λ (n : ℕ). n ≤ 16) (sym d.1) p.few;
      order = d.2 ∙ p.order;
      death = d.3;
      all = subst (λ (n : ℕ). 1 + n ≡ length ds) (sym d.1) p.all;
    }

at_front : (ws : List (List ℕ)) → get_or ws 0 [] ≡ first_word ws
at_front [] = refl
at_front (w ∷ ws) = refl

-- ---- behind one option

behind-order : (c o : List ℕ) (order : List ℕ) (ws : List (List ℕ)) (s : Scripts) → order_text o ≡ Some order → behind_order ws ≡ Some s → AreLast (c ∷ o ∷ ws) s
behind-order c o order [] s t e = cc
behind-order c o order (w ∷ ws) s t e = by (death_text w) refl e
  where
    by : (d : Option (List ℕ)) → death_text w ≡ d → elim d [ None ↦ scripts_at 3 true (w ∷ ws) | Some text ↦ with_death text (scripts_at 4 true ws) ] ≡ Some s → AreLast (c ∷ o ∷ w ∷ ws) s
    by None is e =
        let p = placed 3 true (w ∷ ws) s e in
        record { some = p.some; few = p.few; behind_database = omega (arith, p.at); last = omega (arith, p.at, p.all); database = rw (p.at, t, is); order = rw (p.order, t); death = p.death }
    by (Some text) is e =
        let p = died 4 true ws text (scripts_at 4 true ws) s (placed 4 true ws) e in
        record { some = p.some; few = p.few; behind_database = omega (arith, p.at); last = omega (arith, p.at, p.all); database = rw (p.at, t, is) (at_front ws); order = rw (p.order, t); death = p.death }

behind-death : (c o : List ℕ) (text : List ℕ) (ws : List (List ℕ)) (t s : Scripts) → order_text o ≡ None → death_text o ≡ Some text → behind_death ws ≡ Some t →
    (s.first ≡ t.first) × (s.count ≡ t.count) × (s.has_order ≡ t.has_order) × MayBeOf s.count s.death → AreLast (c ∷ o ∷ ws) s
behind-death c o text [] t s none is e same = cc
behind-death c o text (w ∷ ws) t s none is e same = by (order_text w) refl e
  where
    by : (d : Option (List ℕ)) → order_text w ≡ d → elim d [ None ↦ scripts_at 3 false (w ∷ ws) | Some order ↦ with_order order (scripts_at 4 true ws) ] ≡ Some t → AreLast (c ∷ o ∷ w ∷ ws) s
    by None there e =
        let p = placed 3 false (w ∷ ws) t e in
        let at : s.first ≡ 3 = same.0 ∙ p.at in
        let count = same.1 in
        record { some = subst (λ (n : ℕ). 1 ≤ n) (sym count) p.some; few = subst (λ (n : ℕ). n ≤ 16) (sym count) p.few; behind_database = omega (arith, at); last = omega (arith, at, count, p.all); database = rw (at, none, is, there); order = rw (same.2, p.order, none, is, there); death = same.3 }
    by (Some order) there e =
        let p = placed 4 true ws t (ordered order (scripts_at 4 true ws) t e) in
        let at : s.first ≡ 4 = same.0 ∙ p.at in
        let count = same.1 in
        record { some = subst (λ (n : ℕ). 1 ≤ n) (sym count) p.some; few = subst (λ (n : ℕ). n ≤ 16) (sym count) p.few; behind_database = omega (arith, at); last = omega (arith, at, count, p.all); database = rw (at, none, is, there) (at_front ws); order = rw (same.2, p.order, none, is, there); death = same.3 }

last_words : (c w : List ℕ) (ws : List (List ℕ)) (o d : Option (List ℕ)) (s : Scripts) → order_text w ≡ o → death_text w ≡ d → rdo_from o d ws (w ∷ ws) ≡ Some s → AreLast (c ∷ w ∷ ws) s
last_words c w ws (Some order) d s t k e = behind-order c w order ws s t (ordered order (behind_order ws) s e)
last_words c w ws None (Some text) s t k e = by (behind_death ws) refl e
  where
    by : (found : Option Scripts) → behind_death ws ≡ found → with_death text found ≡ Some s → AreLast (c ∷ w ∷ ws) s
    by None is e = cc
    by (Some u) is e = behind-death c w text ws u s t k is (dies u s (death_in u.count text) e (death-by u.count text (behind_colon text)))
last_words c w ws None None s t k e =
    let p = placed 2 false (w ∷ ws) s e in
    record { some = p.some; few = p.few; behind_database = omega (arith, p.at); last = omega (arith, p.at, p.all); database = rw (p.at, t, k); order = rw (p.order, t, k); death = p.death }

pub all_behind : (words : List (List ℕ)) → take (length words - 1) (drop 1 words) ≡ drop 1 words
all_behind words = grind (arith, common_steps)

pub are_last : (words : List (List ℕ)) (s : Scripts) → 1 ≤ length words → rdo_words (drop 1 words) ≡ Some s → AreLast words s
are_last [] s h e = absurd (omega arith)
are_last (c ∷ []) s h e = cc
are_last (c ∷ w ∷ ws) s h e = last_words c w ws (order_text w) (death_text w) s refl refl e
