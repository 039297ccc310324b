use Rattle.std.proofs.Common.{rules, ◌≡◌, [], ◌∷◌, ◌++◌, ap, ◌∙◌}
use Rattle.std.specs.Fmt.{decimal}
use Rattle.std.proofs.lemmas.Str.{chars-IsAscii}
use Rattle.jam_run.proofs.joining.player_name.Goals as goal

pub returns : goal.returns
returns c =
    let first : c.in_ok-name.name ≡ 112 ∷ [] = search rules in
    let digits : c.in_ok-of.field-0 ≡ decimal c.args.number = c.in_ok-of.ensures ∙ chars-IsAscii c.format.result.now c.format.ensures.ascii ∙ c.format.ensures.text in
    c.in_ok-append.ensures.ok ∙ ap (λ l. l ++ c.in_ok-of.field-0) first ∙ ap (λ l. 112 ∷ l) digits
