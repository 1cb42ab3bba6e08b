-- What is left after a production that takes its first token stands behind that token.
use Rattle.std.proofs.Common.{◌≡◌, Bool, true, false, cond, [], ◌++◌, Result, Ok, Err, refl, ap, subst, sym, ◌∙◌, append_assoc}
use Rattle.rdo_tokens.specs.declared.token.Kind.{Kind}
use Rattle.rdo_tokens.specs.Lex.{Text}
use Rattle.rdo_tokens.specs.Input.{Input, Outcome, Parser, and_then, ◌>>=◌, refuse, peek, take_token, kind, spelling, next}
use Rattle.rdo_grammar.specs.Ahead.{Reaches, LooksAhead}

pub record TakesToken {A : Type 0} (p : Parser A) : Type 0 where
  pub taken : (i rest : Input) (x : A) → p i ≡ Ok (x, rest) → (front : Input) × (next i ≡ front ++ rest)

pub takes_refuse : {A : Type 0} → TakesToken {A = A} refuse
takes_refuse = record { taken = λ i rest x e. absurd (cc) }

pub takes_first : {A : Type 0} (f : Text → Parser A) → ((s : Text) → LooksAhead (f s)) → TakesToken (take_token >>= f)
takes_first f l = record { taken = λ i rest x e. let r = subst (Reaches (f (spelling i)) (next i)) e ((l (spelling i)).at (next i)) in (r.0, r.1) }

pub takes_peek : {A : Type 0} (f : Kind → Parser A) → ((k : Kind) → TakesToken (f k)) → TakesToken (peek >>= f)
takes_peek f t = record { taken = λ i rest x e. (t (kind i)).taken i rest x e }

pub takes_if : {A : Type 0} (p q : Parser A) (b : Bool) → TakesToken p → TakesToken q → TakesToken (cond b p q)
takes_if p q true t u = t
takes_if p q false t u = u

module _ {A B : Type 0} (p : Parser A) (f : A → Parser B) (t : TakesToken p) (l : (x : A) → LooksAhead (f x)) where
  joined : (i rest : Input) (y : B) (r : Outcome A) → p i ≡ r → and_then r f ≡ Ok (y, rest) → (front : Input) × (next i ≡ front ++ rest)
  joined i rest y (Ok (x, mid)) e h =
      let a = t.taken i mid x e in
      let b = subst (Reaches (f x) mid) h ((l x).at mid) in
      (a.0 ++ b.0, a.1 ∙ ap (λ m. a.0 ++ m) b.1 ∙ sym (append_assoc a.0 b.0 rest))
  joined i rest y (Err stop) e h = absurd (cc)

  pub takes_bind : TakesToken (p >>= f)
  takes_bind = record { taken = λ i rest y e. joined i rest y (p i) refl e }
