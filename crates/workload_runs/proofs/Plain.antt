-- A text without a `$` comes to no stop.
use Rattle.std.proofs.Common.{◌≡◌, ℕ, zero, suc, ◌-◌, ◌==◌, ◌&&◌, ◌||◌, not, if◌then◌else◌, Bool, true, false, List, [], ◌∷◌, ◌++◌, length, map, take, drop, Option, Some, None, refl, sym}
use Rattle.std.specs.Prelude.{slice_index}
use Rattle.std.specs.List.{AllByRecursion}
use Rattle.std.specs.Char.{is_ascii_alphabetic, is_ascii_digit}
use Rattle.std.specs.Str.{str_eq_ignore_ascii_case}
use Rattle.std.proofs.lemmas.Bool.{false≢true, and_parts}
use Rattle.rdo_tokens.specs.declared.lex.Cut.{Cut}
use Rattle.rdo_tokens.specs.declared.token.Kind.{Kind}
use Rattle.rdo_tokens.specs.declared.token.Kind.TheVariants as k
use Rattle.rdo_tokens.specs.declared.token.TheConstants.{RESERVED}
use Rattle.rdo_tokens.specs.Input.{Input, kind, next, sees}
use Rattle.rdo_tokens.specs.Lex.{Text, closed, closing, is_blank, lookup, same_kind, single, symbol, token, tokens, tokens_from, word, word_kind}
use Rattle.rdo_parser.specs.declared.items.Found.{Found}
use Rattle.rdo_parser.specs.Script.{begins_stop, ends_in_stop, item_at, stops_at, stops_from, stops_within, with_end}

-- no `$` is among these
abbrev pub is_plain : Text → Bool
is_plain [] = true
is_plain (b ∷ z) = not (b == 36) && is_plain z

no : (c : Bool) → not c ≡ true → c ≡ false
no false h = refl
no true h = absurd (false≢true h)

not-dollar : (b : ℕ) (z : Text) → is_plain (b ∷ z) ≡ true → (b == 36) ≡ false
not-dollar b z h = no (b == 36) (and_parts (not (b == 36)) (is_plain z) h).0

plain-behind : (b : ℕ) (z : Text) → is_plain (b ∷ z) ≡ true → is_plain z ≡ true
plain-behind b z h = (and_parts (not (b == 36)) (is_plain z) h).1

plain-drop : (n : ℕ) (z : Text) → is_plain z ≡ true → is_plain (drop n z) ≡ true
plain-drop zero z h = h
plain-drop (suc n) [] h = h
plain-drop (suc n) (b ∷ z) h = plain-drop n z (plain-behind b z h)

both-plain : (a b : Bool) → a ≡ true → b ≡ true → (a && b) ≡ true
both-plain a b h k = cc

pub plain-append : (x y : Text) → is_plain x ≡ true → is_plain y ≡ true → is_plain (x ++ y) ≡ true
plain-append [] y h k = k
plain-append (b ∷ x) y h k =
    both-plain (not (b == 36)) (is_plain (x ++ y)) (and_parts (not (b == 36)) (is_plain x) h).0 (plain-append x y (plain-behind b x h) k)

-- ---- the token at the front of such a text

-- it is of another kind
abbrev IsOther : Kind → Type 0
IsOther kind = same_kind kind k.Dollar ≡ false

either : {A : Type 0} (P : A → Type 0) (c : Bool) (x y : A) → P x → P y → P (if c then x else y)
either P true x y p q = p
either P false x y p q = q

otherwise : {A : Type 0} (P : A → Type 0) (c : Bool) (x y : A) → c ≡ false → P y → P (if c then x else y)
otherwise P true x y no q = absurd (false≢true (sym no))
otherwise P false x y no q = q

reserved : (ws : List (Text × Kind)) (word : Text) → AllByRecursion (λ w. IsOther w.1) ws → IsOther (lookup ws word)
unfolding same_kind
reserved [] word all = refl
reserved (w ∷ ws) word all = either IsOther (str_eq_ignore_ascii_case w.0 word) w.1 (lookup ws word) all.0 (reserved ws word all.1)

abbrev all-other : List (Text × Kind) → Bool
all-other [] = true
all-other (w ∷ ws) = not (same_kind w.1 k.Dollar) && all-other ws

each-other : (ws : List (Text × Kind)) → all-other ws ≡ true → AllByRecursion (λ w. IsOther w.1) ws
each-other [] h = tt
each-other (w ∷ ws) h = let parts = and_parts (not (same_kind w.1 k.Dollar)) (all-other ws) h in (no (same_kind w.1 k.Dollar) parts.0, each-other ws parts.1)

word-other : (letters : Text) → IsOther (word_kind letters)
unfolding word_kind same_kind
word-other letters = reserved (map (λ w. (w.0.now, w.1)) RESERVED) letters (each-other (map (λ w. (w.0.now, w.1)) RESERVED) refl)

single-other : (b : ℕ) → (b == 36) ≡ false → IsOther (single b)
unfolding same_kind
single-other b no =
    either IsOther (b == 46) _ _ refl (either IsOther (b == 44) _ _ refl (either IsOther (b == 59) _ _ refl (either IsOther (b == 61) _ _ refl
    (either IsOther (b == 43) _ _ refl (either IsOther (b == 45) _ _ refl (either IsOther (b == 42) _ _ refl (either IsOther (b == 40) _ _ refl
    (either IsOther (b == 41) _ _ refl (otherwise IsOther (b == 36) _ _ no (either IsOther (b == 47) _ _ refl refl))))))))))

abbrev CutsOther : Cut → Type 0
CutsOther cut = IsOther cut.kind

symbol-other : (b after : ℕ) → (b == 36) ≡ false → CutsOther (symbol b after)
unfolding symbol same_kind
symbol-other b after no =
    either CutsOther (b == 60) _ _ (either CutsOther (after == 62) _ _ refl (either CutsOther (after == 61) _ _ refl refl))
    (either CutsOther (b == 62) _ _ (either CutsOther (after == 61) _ _ refl refl) (single-other b no))

closed-other : (end : Option ℕ) → CutsOther (closed end)
unfolding same_kind
closed-other None = refl
closed-other (Some n) = refl

word-cut : (z : Text) → CutsOther (word z)
unfolding same_kind
word-cut z = either IsOther _ (word_kind (take _ z)) k.Bad (word-other _) refl

token-other : (b : ℕ) (z : Text) → (b == 36) ≡ false → CutsOther (token (b ∷ z))
unfolding token same_kind
token-other b z no =
    either CutsOther (is_ascii_alphabetic b) _ _
    (word-cut (b ∷ z))
    (either CutsOther (is_ascii_digit b) _ _ refl
    (either CutsOther (b == 39 || b == 34) _ _ (closed-other (closing b false 1 z)) (symbol-other b (slice_index z 0) no)))

-- ---- the first of its tokens

abbrev BeginsOther : Input → Type 0
BeginsOther tokens = sees k.Dollar tokens ≡ false

first-other : (left : ℕ) (z : Text) → is_plain z ≡ true → BeginsOther (tokens_from left z)
unfolding sees kind same_kind
first-other zero [] h = refl
first-other (suc left) [] h = refl
first-other (suc left) (b ∷ z) h = first-other left z (plain-behind b z h)
first-other zero (b ∷ z) h =
    either BeginsOther (is_blank b) _ _ (first-other 0 z (plain-behind b z h))
    (either BeginsOther (b == 33) _ _ (first-other _ z (plain-behind b z h)) (token-other b z (not-dollar b z h)))

-- ---- a script of such a text

stops-nowhere : (z : Text) → is_plain z ≡ true → (at : ℕ) → stops_at z at ≡ false
unfolding begins_stop tokens
stops-nowhere z h at = let here = first-other 0 (drop at z) (plain-drop at z h) in off (sees k.Dollar (tokens (drop at z))) (sees k.Stop (next (tokens (drop at z)))) here
  where
    off : (a b : Bool) → a ≡ false → (a && b) ≡ false
    off false b h = refl
    off true b h = absurd (false≢true (sym h))

ends-with : (found : Option Found) (here : Bool) (behind : ℕ → Bool) → here ≡ false → ((at : ℕ) → behind at ≡ false) → with_end found here behind ≡ false
ends-with None here behind now later = now
ends-with (Some x) here behind now later = later x.next

never-within : (z : Text) → is_plain z ≡ true → (n at : ℕ) → stops_within z n at ≡ false
never-within z h zero at = refl
never-within z h (suc n) at = ends-with (item_at z at) (stops_at z at) (stops_within z n) (stops-nowhere z h at) (never-within z h n)

pub plain-stopless : (z : Text) → is_plain z ≡ true → ends_in_stop z ≡ false
unfolding stops_from
plain-stopless z h = never-within z h (suc (length z - 0)) 0
