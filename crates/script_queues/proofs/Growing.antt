-- The scripts of texts, one more each time.
use Rattle.std.proofs.Common.{◌≡◌, ◌<◌, ◌+◌, ◌++◌, ◌∷◌, ◌∙◌, ℕ, List, [], length, map, take, get_or, sym, ap}
use Rattle.std.proofs.lemmas.List.{map_push, take_more}
use Rattle.session_states.specs.declared.item_queue.WholeScript.{WholeScript}
use Rattle.script_queues.specs.Scripts.{whole_script}

pub said-more : (now old : List WholeScript) (x : WholeScript) (texts : List (List ℕ)) (text read : List ℕ) (i : ℕ) → now ≡ old ++ x ∷ [] → old ≡ map whole_script (take i texts) → x ≡ whole_script read → read ≡ text → i < length texts → text ≡ get_or texts i text → now ≡ map whole_script (take (i + 1) texts)
said-more now old x texts text read i new was is same low there =
    let there_is = get_or texts i text in
    let item : x ≡ whole_script there_is = is ∙ ap whole_script (same ∙ there) in
    new ∙ ap (λ (xs : List WholeScript). xs ++ x ∷ []) was
    ∙ ap (λ (y : WholeScript). map whole_script (take i texts) ++ y ∷ []) item
    ∙ sym (map_push whole_script (take i texts) there_is)
    ∙ ap (λ (ts : List (List ℕ)). map whole_script ts) (sym (take_more texts i text low))
