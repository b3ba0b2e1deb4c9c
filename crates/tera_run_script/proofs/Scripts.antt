-- A script that is read line by line.
use Rattle.std.proofs.Common.{◌≡◌, ℕ, zero, suc, ◌+◌, ◌<◌, List, [], ◌∷◌, ◌++◌, length, drop, refl, sym, ap, ◌∙◌, arith, append_assoc}
use Rattle.std.proofs.lemmas.Bool.{false_from_ne_true}
use Rattle.std.proofs.lemmas.Str.{IsUtf8-from_is_utf8, is_utf8-from_IsUtf8}
use Rattle.std.specs.Str.{IsUtf8, is_utf8}
use Rattle.tera_run_script.specs.Lines.{lines_of}
use Rattle.tera_run_script.specs.Act.{Act}
use Rattle.tera_run_script.specs.Script.{Script, before, stopped, with_command, head_of, body_lines, script_of_lines, script_of}

-- commands that were read, before those of the rest
abbrev pub onto : List Act → Script → Script
onto done script = record { acts = done ++ script.acts; unreadable = script.unreadable }

pub onto-before : (done : List Act) (act : Act) (script : Script) → onto done (before act script) ≡ onto (done ++ act ∷ []) script
onto-before done act script = ap (λ acts. let s : Script = record { acts = acts; unreadable = script.unreadable } in s) (sym (append_assoc done (act ∷ []) script.acts))

pub script_of_lines-taken : (n taken : ℕ) (lines : List (List ℕ)) → script_of_lines n taken lines ≡ script_of_lines (n + taken) 0 (drop taken lines)
script_of_lines-taken n zero [] = refl
script_of_lines-taken n (suc taken) [] = refl
script_of_lines-taken n zero (line ∷ lines) = ap (λ m. script_of_lines m 0 (line ∷ lines)) (omega arith)
script_of_lines-taken n (suc taken) (line ∷ lines) =
    script_of_lines-taken (n + 1) taken lines ∙ ap (λ m. script_of_lines m 0 (drop taken lines)) (omega arith)

pub script_of_lines-line : (n : ℕ) (line : List ℕ) (lines : List (List ℕ)) → 0 < length line → script_of_lines n 0 (line ∷ lines) ≡ with_command n (head_of line) (body_lines lines) (λ taken. script_of_lines (n + 1) taken lines)
script_of_lines-line n [] lines h = absurd (omega arith)
script_of_lines-line n (b ∷ bs) lines h = refl

pub script_of_lines-empty : (n : ℕ) (line : List ℕ) (lines : List (List ℕ)) → length line ≡ 0 → script_of_lines n 0 (line ∷ lines) ≡ script_of_lines (n + 1) 0 lines
script_of_lines-empty n [] lines h = refl
script_of_lines-empty n (b ∷ bs) lines h = absurd (omega arith)

-- one command more
pub onto-command : (text : Script) (done : List Act) (act : Act) (n taken : ℕ) (line : List ℕ) (lines rest : List (List ℕ)) → text ≡ onto done (script_of_lines n 0 (line ∷ lines)) → 0 < length line → ((m : ℕ) (more : ℕ → Script) → with_command m (head_of line) (body_lines lines) more ≡ before act (more taken)) → rest ≡ drop taken lines → text ≡ onto (done ++ act ∷ []) (script_of_lines (n + (1 + taken)) 0 rest)
onto-command text done act n taken line lines rest e some is follows =
    e ∙ ap (onto done) (script_of_lines-line n line lines some ∙ is n (λ taken. script_of_lines (n + 1) taken lines) ∙ ap (before act) (script_of_lines-taken (n + 1) taken lines))
    ∙ onto-before done act (script_of_lines (n + 1 + taken) 0 (drop taken lines))
    ∙ ap (onto (done ++ act ∷ [])) (ap (λ ls. script_of_lines (n + 1 + taken) 0 ls) (sym follows) ∙ ap (λ m. script_of_lines m 0 rest) (omega arith))

pub script_of-text : (bytes : List ℕ) → IsUtf8 bytes → script_of bytes ≡ script_of_lines 1 0 (lines_of bytes)
script_of-text bytes h = rw (is_utf8-from_IsUtf8 bytes h)

pub script_of-no_text : (bytes : List ℕ) → ¬ (IsUtf8 bytes) → script_of bytes ≡ stopped 1
script_of-no_text bytes h = rw (false_from_ne_true (is_utf8 bytes) (λ is. h (IsUtf8-from_is_utf8 bytes is)))
