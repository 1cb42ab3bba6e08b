-- Who would wait for whom with one more request or conversion in its queue.
use Rattle.std.proofs.Common.{◌≡◌, ℕ, ◌++◌, ◌∷◌, [], Bool, true, false, List, refl, ◌∙◌, ap}
use Rattle.std.specs.Prelude.{◌==◌, ◌&&◌, ◌||◌}
use Rattle.vms_queues.specs.declared.lock_mode.Mode.{Mode}
use Rattle.vms_queues.specs.declared.held.Held.{Held}
use Rattle.vms_queues.specs.Queues.{Queues, blocks, entry, with_request, with_conversion}
use Rattle.vms_queues.specs.Waits.{blocked_by, conversion_waits, request_waits, waits}
use Rattle.vms_queues.proofs.WaitEdges.{blocked_by-append, conversion_waits-append, request_waits-append}

last_of_three : (c r x : Bool) → (c || (r || (x || false))) ≡ ((c || r) || x)
last_of_three true r x = refl
last_of_three false true x = refl
last_of_three false false true = refl
last_of_three false false false = refl

-- the request itself waits for whoever is in its way in some queue
pub waits-with_request : (q : Queues) (o : ℕ) (m : Mode) (a b : ℕ) → waits (with_request q o m) a b ≡ (waits q a b || ((o == a) && (blocked_by b a m q.granted || (blocked_by b a m q.converting || blocked_by b a m q.waiting))))
waits-with_request q o m a b =
    let c = conversion_waits q.granted a b q.converting in
    ap (λ (r : Bool). c || r) (request_waits-append q.granted q.converting a b [] q.waiting (entry o m ∷ []))
    ∙ last_of_three c (request_waits q.granted q.converting a b [] q.waiting) ((o == a) && (blocked_by b a m q.granted || (blocked_by b a m q.converting || blocked_by b a m q.waiting)))

joined : (t g k e h r d : Bool) → ((t && (g || ((k || (e || false)) || h))) || (r || d)) ≡ (((t && (g || (k || h))) || r) || ((t && (e || false)) || d))
joined false g k e h r d = refl
joined true true k e h r d = refl
joined true false true e h r d = refl
joined true false false true true r d = refl
joined true false false true false true d = refl
joined true false false true false false d = refl
joined true false false false true r d = refl
joined true false false false false r d = refl

-- a waiting request waits for one more that converts, too
request_waits-joined : (g k : List Held) (e : Held) (a b : ℕ) (ahead ws : List Held) → request_waits g (k ++ e ∷ []) a b ahead ws ≡ (request_waits g k a b ahead ws || conversion_waits (e ∷ []) a b ws)
request_waits-joined g k e a b ahead [] = refl
request_waits-joined g k e a b ahead (w ∷ ws) =
    let t = w.owner == a in
    let held = blocked_by b a w.mode g in
    let converted = blocked_by b a w.mode k in
    let ahead_of = blocked_by b a w.mode ahead in
    let joins = (e.owner == b) && blocks a w.mode e in
    ap (λ (x : Bool). (t && (held || (x || ahead_of))) || request_waits g (k ++ e ∷ []) a b (ahead ++ w ∷ []) ws) (blocked_by-append b a w.mode k (e ∷ []))
    ∙ (ap (λ (y : Bool). (t && (held || ((converted || (joins || false)) || ahead_of))) || y) (request_waits-joined g k e a b (ahead ++ w ∷ []) ws)
    ∙ joined t held converted joins ahead_of (request_waits g k a b (ahead ++ w ∷ []) ws) (conversion_waits (e ∷ []) a b ws))

middle : (c d r e : Bool) → ((c || d) || (r || e)) ≡ (((c || r) || d) || e)
middle true d r e = refl
middle false true true e = refl
middle false true false e = refl
middle false false true e = refl
middle false false false e = refl

-- the conversion waits for whoever holds what is in its way, and the waiting requests for the conversion
pub waits-with_conversion : (q : Queues) (o : ℕ) (m : Mode) (a b : ℕ) → waits (with_conversion q o m) a b ≡ ((waits q a b || conversion_waits q.granted a b (entry o m ∷ [])) || conversion_waits (entry o m ∷ []) a b q.waiting)
waits-with_conversion q o m a b =
    let c = conversion_waits q.granted a b q.converting in
    let d = conversion_waits q.granted a b (entry o m ∷ []) in
    let r = request_waits q.granted q.converting a b [] q.waiting in
    let e = conversion_waits (entry o m ∷ []) a b q.waiting in
    ap (λ (x : Bool). x || request_waits q.granted (q.converting ++ entry o m ∷ []) a b [] q.waiting) (conversion_waits-append q.granted a b q.converting (entry o m ∷ []))
    ∙ (ap (λ (y : Bool). (c || d) || y) (request_waits-joined q.granted q.converting (entry o m) a b [] q.waiting)
    ∙ middle c d r e)

pub ruleset joining = (waits-with_request, waits-with_conversion)
