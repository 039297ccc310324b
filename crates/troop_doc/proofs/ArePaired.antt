-- Text and marks, side by side.
use Rattle.std.proofs.Common.{◌≡◌, ℕ, List, [], ◌∷◌, length, refl, sym, ap, ◌∙◌, arith}
use Rattle.std.specs.Prelude.{zip}
use Rattle.ot_text.specs.Change.{Change, base, effect, plain}
use Rattle.ot_text.specs.Ready.{Room}
use Rattle.ot_text.specs.Marked.{Marked, char_by, text_of, marks_of}
use Rattle.ot_text.proofs.EffectOf.{map-effect, length-effect}
use Rattle.author_marks.specs.Authorship.{Authorship, mark_by}
use Rattle.gap_text.specs.SpacedText.{SpacedText}
use Rattle.troop_doc.specs.Paired.{ArePaired}

text_of-zip : (text marks : List ℕ) → length text ≡ length marks → text_of (zip text marks) ≡ text
text_of-zip [] marks h = refl
text_of-zip (c ∷ text) [] h = absurd (omega arith)
text_of-zip (c ∷ text) (who ∷ marks) h = ap (λ rest. c ∷ rest) (text_of-zip text marks (omega arith))

marks_of-zip : (text marks : List ℕ) → length text ≡ length marks → marks_of (zip text marks) ≡ marks
marks_of-zip [] [] h = refl
marks_of-zip [] (who ∷ marks) h = absurd (omega arith)
marks_of-zip (c ∷ text) [] h = absurd (omega arith)
marks_of-zip (c ∷ text) (who ∷ marks) h = ap (λ rest. who ∷ rest) (marks_of-zip text marks (omega arith))

length-zip : (text marks : List ℕ) → length text ≡ length marks → length (zip text marks) ≡ length text
length-zip [] marks h = refl
length-zip (c ∷ text) [] h = absurd (omega arith)
length-zip (c ∷ text) (who ∷ marks) h = omega (arith, length-zip text marks (omega arith))

zip-of : (m : Marked) → zip (text_of m) (marks_of m) ≡ m
zip-of [] = refl
zip-of (pair ∷ m) = ap (λ rest. pair ∷ rest) (zip-of m)

abbrev pub pairs_of : SpacedText → Authorship → Marked
pairs_of characters authorship = zip characters.chars authorship.marks

-- the characters of the pairs
pub text_of-pairs : {c : SpacedText} {a : Authorship} {ready : Room} → ArePaired c a ready → text_of (pairs_of c a) ≡ c.chars
text_of-pairs {c} {a} paired = text_of-zip c.chars a.marks paired.even

-- the marks of the pairs
pub marks_of-pairs : {c : SpacedText} {a : Authorship} {ready : Room} → ArePaired c a ready → marks_of (pairs_of c a) ≡ a.marks
marks_of-pairs {c} {a} paired = marks_of-zip c.chars a.marks paired.even

-- there are as many pairs as characters
pub length-pairs : {c : SpacedText} {a : Authorship} {ready : Room} → ArePaired c a ready → length (pairs_of c a) ≡ length c.chars
length-pairs {c} {a} paired = length-zip c.chars a.marks paired.even

-- equal pairs have equal characters and marks
pub pairs-cancel : {c d : SpacedText} {a b : Authorship} {ready other : Room} → ArePaired c a ready → ArePaired d b other
    → pairs_of c a ≡ pairs_of d b → (c.chars ≡ d.chars) × (a.marks ≡ b.marks)
pairs-cancel paired others e =
    (sym (text_of-pairs paired) ∙ ap text_of e ∙ text_of-pairs others, sym (marks_of-pairs paired) ∙ ap marks_of e ∙ marks_of-pairs others)

-- an operation changes characters and marks each on their own
pub effect-pairs : {c : SpacedText} {a : Authorship} {ready : Room} → ArePaired c a ready → (who : ℕ) (change : Change)
    → zip (effect plain change c.chars) (effect (mark_by who) change a.marks) ≡ effect (char_by who) change (pairs_of c a)
effect-pairs {c} {a} paired who change =
    let made = effect (char_by who) change (pairs_of c a) in
    let chars : text_of made ≡ effect plain change c.chars =
    map-effect (λ (pair : ℕ × ℕ). pair.0) (char_by who) change (pairs_of c a) ∙ ap (effect plain change) (text_of-pairs paired) in
    let marks : marks_of made ≡ effect (mark_by who) change a.marks =
    map-effect (λ (pair : ℕ × ℕ). pair.1) (char_by who) change (pairs_of c a) ∙ ap (effect (mark_by who) change) (marks_of-pairs paired) in
    rw (← chars, ← marks) (zip-of made)

-- an operation leaves as many characters as marks
pub length-effects : {c : SpacedText} {a : Authorship} {ready : Room} → ArePaired c a ready → (who : ℕ) (change : Change) → base change ≡ length c.chars
    → length (effect plain change c.chars) ≡ length (effect (mark_by who) change a.marks)
length-effects {c} {a} paired who change e =
    length-effect plain change c.chars (sym e) ∙ sym (length-effect (mark_by who) change a.marks (sym (e ∙ paired.even)))
