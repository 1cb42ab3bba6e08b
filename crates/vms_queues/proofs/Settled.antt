-- Nothing that is queued could be granted: passes lead there, and what keeps it so.
use Rattle.std.proofs.Common.{◌≡◌, ℕ, zero, suc, ◌+◌, ◌≤◌, ◌++◌, ◌∷◌, [], inl, inr, Bool, true, false, List, length, refl, ◌∙◌, sym, ap, subst, arith, append_assoc, append-nil, length-append}
use Rattle.std.specs.Prelude.{not, ◌&&◌, if◌then◌else◌}
use Rattle.std.proofs.lemmas.Bool.{false≢true, cases_eq, and_parts, and_from, not-true, not_from_false}
use Rattle.std.proofs.lemmas.Grind.{common_steps}
use Rattle.vms_queues.specs.declared.lock_mode.Mode.{Mode}
use Rattle.vms_queues.specs.declared.held.Held.{Held}
use Rattle.vms_queues.specs.Queues.{Queues, fits, with_mode, entry, conversions_considered, requests_considered, is_free, passed, passes, considered, queue_length, conversions_wait, requests_wait, is_settled, is_grantable, with_lock, with_request, with_conversion}

-- a pass takes entries out of the queues and puts none in

pub length-conversions_considered : (g l cs : List Held) → length (conversions_considered g l cs).1 ≤ length l + length cs
length-conversions_considered g l [] = omega arith
length-conversions_considered g l (c ∷ cs) =
    let granted = length-conversions_considered (with_mode c.owner c.mode g) l cs in
    let waits = length-conversions_considered g (l ++ c ∷ []) cs in
    let longer = length-append l (c ∷ []) in
    elim (fits c.owner c.mode g) as (λ t. length (if t then conversions_considered (with_mode c.owner c.mode g) l cs else conversions_considered g (l ++ c ∷ []) cs).1 ≤ length l + length (c ∷ cs)) [
      | true ↦ omega (arith, granted)
      | false ↦ omega (arith, waits, longer)
    ]

pub length-requests_considered : (k g l ws : List Held) → length (requests_considered k g l ws).1 ≤ length l + length ws
length-requests_considered k g l [] = omega arith
length-requests_considered k g l (w ∷ ws) =
    let granted = length-requests_considered k (g ++ w ∷ []) l ws in
    let waits = length-requests_considered k g (l ++ w ∷ []) ws in
    let longer = length-append l (w ∷ []) in
    elim (is_free k g l w) as (λ t. length (if t then requests_considered k (g ++ w ∷ []) l ws else requests_considered k g (l ++ w ∷ []) ws).1 ≤ length l + length (w ∷ ws)) [
      | true ↦ omega (arith, granted)
      | false ↦ omega (arith, waits, longer)
    ]

pub queue_length-passed : (q : Queues) → queue_length (passed q) ≤ queue_length q
queue_length-passed q =
    let c = conversions_considered q.granted [] q.converting in
    let one = length-conversions_considered q.granted [] q.converting in
    let two = length-requests_considered c.1 c.0 [] q.waiting in
    omega (arith, one, two)

-- where the queues stay as long as they were, nothing could be granted

pub conversions_wait-same_length : (g l cs : List Held) → length (conversions_considered g l cs).1 ≡ length l + length cs → conversions_wait g cs ≡ true
conversions_wait-same_length g l [] e = refl
conversions_wait-same_length g l (c ∷ cs) e =
    elim (fits c.owner c.mode g) as (λ t. length (if t then conversions_considered (with_mode c.owner c.mode g) l cs else conversions_considered g (l ++ c ∷ []) cs).1 ≡ length l + length (c ∷ cs) → (not t && conversions_wait g cs) ≡ true) [
      | true ↦ λ same. absurd (let less = length-conversions_considered (with_mode c.owner c.mode g) l cs in omega (arith, less, same))
      | false ↦ λ same. conversions_wait-same_length g (l ++ c ∷ []) cs (let longer = length-append l (c ∷ []) in omega (arith, longer, same))
    ] e

pub requests_wait-same_length : (k g l ws : List Held) → length (requests_considered k g l ws).1 ≡ length l + length ws → requests_wait k g l ws ≡ true
requests_wait-same_length k g l [] e = refl
requests_wait-same_length k g l (w ∷ ws) e =
    elim (is_free k g l w) as (λ t. length (if t then requests_considered k (g ++ w ∷ []) l ws else requests_considered k g (l ++ w ∷ []) ws).1 ≡ length l + length (w ∷ ws) → (not t && requests_wait k g (l ++ w ∷ []) ws) ≡ true) [
      | true ↦ λ same. absurd (let less = length-requests_considered k (g ++ w ∷ []) l ws in omega (arith, less, same))
      | false ↦ λ same. requests_wait-same_length k g (l ++ w ∷ []) ws (let longer = length-append l (w ∷ []) in omega (arith, longer, same))
    ] e

-- where nothing could be granted, a pass changes nothing

pub conversions_considered-wait : (g l cs : List Held) → conversions_wait g cs ≡ true → conversions_considered g l cs ≡ (g, l ++ cs)
conversions_considered-wait g l [] h = ap (λ (hs : List Held). (g, hs)) (sym (append-nil l))
conversions_considered-wait g l (c ∷ cs) h =
    let p = and_parts (not (fits c.owner c.mode g)) (conversions_wait g cs) h in
    let busy = not-true (fits c.owner c.mode g) p.0 in
    ap (λ (t : Bool). if t then conversions_considered (with_mode c.owner c.mode g) l cs else conversions_considered g (l ++ c ∷ []) cs) busy
    ∙ (conversions_considered-wait g (l ++ c ∷ []) cs p.1 ∙ ap (λ (hs : List Held). (g, hs)) (append_assoc l (c ∷ []) cs))

pub requests_considered-wait : (k g l ws : List Held) → requests_wait k g l ws ≡ true → requests_considered k g l ws ≡ (g, l ++ ws)
requests_considered-wait k g l [] h = ap (λ (hs : List Held). (g, hs)) (sym (append-nil l))
requests_considered-wait k g l (w ∷ ws) h =
    let p = and_parts (not (is_free k g l w)) (requests_wait k g (l ++ w ∷ []) ws) h in
    let busy = not-true (is_free k g l w) p.0 in
    ap (λ (t : Bool). if t then requests_considered k (g ++ w ∷ []) l ws else requests_considered k g (l ++ w ∷ []) ws) busy
    ∙ (requests_considered-wait k g (l ++ w ∷ []) ws p.1 ∙ ap (λ (hs : List Held). (g, hs)) (append_assoc l (w ∷ []) ws))

-- the waiting requests considered behind the conversions
abbrev behind : Queues → List Held × List Held → Queues
behind q c = let w = requests_considered c.1 c.0 [] q.waiting in record { granted = w.0; converting = c.1; waiting = w.1 }

pub passed-settled : (q : Queues) → is_settled q ≡ true → passed q ≡ q
passed-settled q h =
    let p = and_parts (conversions_wait q.granted q.converting) (requests_wait q.converting q.granted [] q.waiting) h in
    let first : passed q ≡ behind q (q.granted, q.converting) = ap (behind q) (conversions_considered-wait q.granted [] q.converting p.0) in
    first ∙ ap (λ (w : List Held × List Held). (let r : Queues = record { granted = w.0; converting = q.converting; waiting = w.1 } in r)) (requests_considered-wait q.converting q.granted [] q.waiting p.1)

pub is_settled-same_length : (q : Queues) → queue_length (passed q) ≡ queue_length q → is_settled q ≡ true
is_settled-same_length q e =
    let c = conversions_considered q.granted [] q.converting in
    let one = length-conversions_considered q.granted [] q.converting in
    let two = length-requests_considered c.1 c.0 [] q.waiting in
    let waits : conversions_wait q.granted q.converting ≡ true = conversions_wait-same_length q.granted [] q.converting (omega (arith, one, two, e)) in
    let same : c ≡ (q.granted, q.converting) = conversions_considered-wait q.granted [] q.converting waits in
    let rest : requests_wait c.1 c.0 [] q.waiting ≡ true = requests_wait-same_length c.1 c.0 [] q.waiting (omega (arith, one, two, e)) in
    and_from _ _ waits (subst (λ (d : List Held × List Held). requests_wait d.1 d.0 [] q.waiting ≡ true) same rest)

-- passes

pub passes-settled : (n : ℕ) (q : Queues) → is_settled q ≡ true → passes n q ≡ q
passes-settled zero q h = refl
passes-settled (suc n) q h = ap (passes n) (passed-settled q h) ∙ passes-settled n q h

none_convert : (g cs : List Held) → length cs ≤ 0 → conversions_wait g cs ≡ true
none_convert g [] h = refl
none_convert g (c ∷ cs) h = absurd (omega (arith, h))

none_wait : (k g l ws : List Held) → length ws ≤ 0 → requests_wait k g l ws ≡ true
none_wait k g l [] h = refl
none_wait k g l (w ∷ ws) h = absurd (omega (arith, h))

-- as many passes as are queued lead to queues of which nothing could be granted
pub is_settled-passes : (n : ℕ) (q : Queues) → queue_length q ≤ n → is_settled (passes n q) ≡ true
is_settled-passes zero q h = and_from _ _ (none_convert q.granted q.converting (omega (arith, h))) (none_wait q.converting q.granted [] q.waiting (omega (arith, h)))
is_settled-passes (suc n) q h =
    elim (cases_eq (queue_length (passed q)) (queue_length q)) [
      | inl same ↦
          let settled = is_settled-same_length q same in
          subst (λ (r : Queues). is_settled r ≡ true) (sym (passes-settled (suc n) q settled)) settled
      | inr other ↦ is_settled-passes n (passed q) (let less = queue_length-passed q in omega (arith, less, other, h))
    ]

pub is_settled-considered : (q : Queues) → is_settled (considered q) ≡ true
is_settled-considered q = is_settled-passes (queue_length q) q (omega arith)

pub considered-settled : (q : Queues) → is_settled q ≡ true → considered q ≡ q
considered-settled q h = passes-settled (queue_length q) q h

passes-last : (n : ℕ) (q : Queues) → passes (suc n) q ≡ passed (passes n q)
passes-last zero q = refl
passes-last (suc n) q = passes-last n (passed q)

passes-one_more : (n : ℕ) (q : Queues) → queue_length q ≤ n → passes (suc n) q ≡ passes n q
passes-one_more n q h = passes-last n q ∙ passed-settled (passes n q) (is_settled-passes n q h)

-- more passes than are queued change nothing
passes-enough : (n : ℕ) (q : Queues) → queue_length q ≤ n → passes n q ≡ considered q
passes-enough zero q h = let e : zero ≡ queue_length q = omega (arith, h) in ap (λ (k : ℕ). passes k q) e
passes-enough (suc n) q h =
    elim (cases_eq (queue_length q) (suc n)) [
      | inl same ↦ ap (λ (k : ℕ). passes k q) (sym same)
      | inr other ↦ let less : queue_length q ≤ n = omega (arith, other, h) in passes-one_more n q less ∙ passes-enough n q less
    ]

-- a pass first makes no difference
pub considered-passed : (q : Queues) → considered (passed q) ≡ considered q
considered-passed q =
    let less = queue_length-passed q in
    sym (passes-enough (queue_length q) (passed q) less) ∙ passes-one_more (queue_length q) q (omega arith)

-- a pass that grants nothing is the last
pub passed-last : (q : Queues) → queue_length (passed q) ≡ queue_length q → passed q ≡ considered q
passed-last q e = let settled = is_settled-same_length q e in passed-settled q settled ∙ sym (considered-settled q settled)

-- what keeps it so

-- what fits beside the second list fits beside the first
abbrev pub FitsLess : List Held → List Held → Type 0
FitsLess more less = (o : ℕ) (m : Mode) → fits o m more ≡ true → fits o m less ≡ true

pub fits-append : (o : ℕ) (m : Mode) (xs ys : List Held) → fits o m (xs ++ ys) ≡ (fits o m xs && fits o m ys)
fits-append o m [] ys = refl
fits-append o m (x ∷ xs) ys = grind (arith, common_steps, fits-append o m xs ys)

pub fits_less-push : (hs : List Held) (h : Held) → FitsLess (hs ++ h ∷ []) hs
fits_less-push hs h o m e = (and_parts (fits o m hs) (fits o m (h ∷ [])) (sym (fits-append o m hs (h ∷ [])) ∙ e)).0

pub fits_less-same : (hs : List Held) → FitsLess hs hs
fits_less-same hs o m e = e

pub busy-less : (more less : Bool) → (more ≡ true → less ≡ true) → less ≡ false → more ≡ false
busy-less true less f e = absurd (false≢true (sym e ∙ f refl))
busy-less false less f e = refl

pub free-less : (a b c x y : Bool) → (x ≡ true → a ≡ true) → (y ≡ true → b ≡ true) → (x && (y && c)) ≡ true → (a && (b && c)) ≡ true
free-less a b c x y f g h =
    let p = and_parts x (y && c) h in
    let q = and_parts y c p.1 in
    and_from a (b && c) (f p.0) (and_from b c (g q.0) q.1)

pub conversions_wait-less : (more less cs : List Held) → FitsLess more less → conversions_wait less cs ≡ true → conversions_wait more cs ≡ true
conversions_wait-less more less [] f h = refl
conversions_wait-less more less (c ∷ cs) f h =
    let p = and_parts (not (fits c.owner c.mode less)) (conversions_wait less cs) h in
    and_from _ _ (not_from_false (fits c.owner c.mode more) (busy-less (fits c.owner c.mode more) (fits c.owner c.mode less) (f c.owner c.mode) (not-true (fits c.owner c.mode less) p.0)))
    (conversions_wait-less more less cs f p.1)

pub requests_wait-less : (k n g e l ws : List Held) → FitsLess n k → FitsLess e g → requests_wait k g l ws ≡ true → requests_wait n e l ws ≡ true
requests_wait-less k n g e l [] f d h = refl
requests_wait-less k n g e l (w ∷ ws) f d h =
    let p = and_parts (not (is_free k g l w)) (requests_wait k g (l ++ w ∷ []) ws) h in
    let ahead = fits w.owner w.mode l in
    let free : is_free n e l w ≡ true → is_free k g l w ≡ true =
    free-less (fits w.owner w.mode g) (fits w.owner w.mode k) ahead (fits w.owner w.mode e) (fits w.owner w.mode n) (d w.owner w.mode) (f w.owner w.mode) in
    and_from _ _ (not_from_false (is_free n e l w) (busy-less (is_free n e l w) (is_free k g l w) free (not-true (is_free k g l w) p.0)))
    (requests_wait-less k n g e (l ++ w ∷ []) ws f d p.1)

pub conversions_wait-push : (g cs : List Held) (c : Held) → conversions_wait g cs ≡ true → fits c.owner c.mode g ≡ false → conversions_wait g (cs ++ c ∷ []) ≡ true
conversions_wait-push g [] c h e = and_from _ _ (not_from_false (fits c.owner c.mode g) e) refl
conversions_wait-push g (x ∷ xs) c h e =
    let p = and_parts (not (fits x.owner x.mode g)) (conversions_wait g xs) h in
    and_from _ _ p.0 (conversions_wait-push g xs c p.1 e)

pub requests_wait-push : (k g l ws : List Held) (w : Held) → requests_wait k g l ws ≡ true → is_free k g (l ++ ws) w ≡ false → requests_wait k g l (ws ++ w ∷ []) ≡ true
requests_wait-push k g l [] w h e = and_from _ _ (not_from_false (is_free k g l w) (subst (λ (hs : List Held). is_free k g hs w ≡ false) (append-nil l) e)) refl
requests_wait-push k g l (x ∷ xs) w h e =
    let p = and_parts (not (is_free k g l x)) (requests_wait k g (l ++ x ∷ []) xs) h in
    and_from _ _ p.0 (requests_wait-push k g (l ++ x ∷ []) xs w p.1 (subst (λ (hs : List Held). is_free k g hs w ≡ false) (sym (append_assoc l (x ∷ []) xs)) e))

-- each request

abbrev parts : (q : Queues) → is_settled q ≡ true → (conversions_wait q.granted q.converting ≡ true) × (requests_wait q.converting q.granted [] q.waiting ≡ true)
parts q h = and_parts (conversions_wait q.granted q.converting) (requests_wait q.converting q.granted [] q.waiting) h

pub settled-lock : (q : Queues) (o : ℕ) (m : Mode) → is_settled q ≡ true → is_settled (with_lock q o m) ≡ true
settled-lock q o m h =
    let p = parts q h in
    let less = fits_less-push q.granted (entry o m) in
    and_from _ _ (conversions_wait-less (q.granted ++ entry o m ∷ []) q.granted q.converting less p.0)
    (requests_wait-less q.converting q.converting q.granted (q.granted ++ entry o m ∷ []) [] q.waiting (fits_less-same q.converting) less p.1)

pub settled-request : (q : Queues) (o : ℕ) (m : Mode) → is_settled q ≡ true → is_grantable q o m ≡ false → is_settled (with_request q o m) ≡ true
settled-request q o m h busy =
    let p = parts q h in
    and_from _ _ p.0 (requests_wait-push q.converting q.granted [] q.waiting (entry o m) p.1 busy)

pub settled-conversion : (q : Queues) (o : ℕ) (m : Mode) → is_settled q ≡ true → fits o m q.granted ≡ false → is_settled (with_conversion q o m) ≡ true
settled-conversion q o m h busy =
    let p = parts q h in
    and_from _ _ (conversions_wait-push q.granted q.converting (entry o m) p.0 busy)
    (requests_wait-less q.converting (q.converting ++ entry o m ∷ []) q.granted q.granted [] q.waiting (fits_less-push q.converting (entry o m)) (fits_less-same q.granted) p.1)

-- what the queues become once they were considered
pub settled-at : (q r : Queues) → r ≡ considered q → is_settled r ≡ true
settled-at q r e = subst (λ (s : Queues). is_settled s ≡ true) (sym e) (is_settled-considered q)
