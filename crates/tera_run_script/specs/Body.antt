-- How a body is cut out of the text of a script.
use Rattle.std.specs.Prelude.{◌≡◌, ℕ, ◌+◌, ◌≤◌, List, ◌∷◌, ◌++◌, codes, length, drop, Some, None}
use Rattle.std.specs.List.{slice_split}
use Rattle.tera.specs.Site.{Text}
use Rattle.tera_run_script.specs.Lines.{is_line_feed, lines_of, joined}
use Rattle.tera_run_script.specs.Script.{body_lines}
use Rattle.tera_run_script.specs.declared.body.CommandBody.{CommandBody}

-- the text begins with so many lines that end no body, and then comes the rest
pub record Passed (text after : Text) (count : ℕ) : Type 0 where
  pub front : List Text
  pub parts : slice_split is_line_feed text ≡ front ++ slice_split is_line_feed after
  pub counted : length front ≡ count
  pub unended : body_lines front ≡ None
  pub room : count + length after ≤ length text

-- then comes the line that ends the body
pub record Ended (text after : Text) (count : ℕ) (rest : Text) : Type 0 where
  pub passed : Passed text after count
  pub last : lines_of after ≡ codes "@@ end" ∷ lines_of rest
  pub room : 1 + length rest ≤ length after

-- the body that the text begins with
pub record IsBody (text : Text) (body : CommandBody) : Type 0 where
  pub lines : List Text
  pub found : body_lines (lines_of text) ≡ Some lines
  pub is_text : body.text.now ≡ joined lines
  pub counted : body.lines ≡ length lines + 1
  pub follows : lines_of body.rest.now ≡ drop body.lines (lines_of text)
  pub room : body.lines + length body.rest.now ≤ length text
