-- Fields that are being laid out, one after another.
use Rattle.std.proofs.Common.{ℕ, ◌+◌, ◌≡◌, List, [], ◌++◌, take, drop, refl, sym, ap, ◌∙◌, arith}
use Rattle.slot_fields.specs.Fields.{Field, laid, size, Fit}
use Rattle.slot_fields.proofs.Laws.{laid_append, size_append, fit_append, drop_behind}

-- the fields were laid out from one place to another, and the bytes behind stayed
pub record HasLaid (old new : List ℕ) (at end : ℕ) (fields : List Field) : Type 0 where
  pub ends : end ≡ at + size fields
  pub front : take end new ≡ laid (take at old) fields
  pub rest : drop end new ≡ drop end old
  pub fits : Fit fields

pub laid_nothing : (old : List ℕ) (at : ℕ) → HasLaid old old at at []
laid_nothing old at = record { ends = omega arith; front = refl; rest = refl; fits = tt }

pub laid_then : (old mid new : List ℕ) (at middle end : ℕ) (xs ys : List Field) → HasLaid old mid at middle xs → HasLaid mid new middle end ys → HasLaid old new at end (xs ++ ys)
laid_then old mid new at middle end xs ys first second = record {
  ends = omega (arith, first.ends, second.ends, size_append xs ys);
  front = second.front ∙ ap (λ bytes. laid bytes ys) first.front ∙ sym (laid_append (take at old) xs ys);
  rest = second.rest ∙ drop_behind end middle old mid (omega (arith, second.ends)) first.rest;
  fits = fit_append xs ys first.fits second.fits;
}
