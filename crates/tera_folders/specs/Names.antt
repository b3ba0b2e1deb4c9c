-- Paths of files, as bytes.
use Rattle.std.specs.Prelude.{◌≡◌, ℕ, ◌||◌, ◌==◌, nat_eq, length, List, [], ◌++◌, codes, ◌⊎◌, if◌then◌else◌}
use Rattle.std.specs.List.{ends_with}

-- the folder with a `/` at its end, where it has none
abbrev pub with_slash : List ℕ → List ℕ
with_slash folder = if ends_with nat_eq folder (codes "/") then folder else folder ++ codes "/"

-- the path is the folder, where nothing is left of it, or lies in the folder at `rest`
abbrev pub IsBelow : List ℕ → List ℕ → List ℕ → Type 0
IsBelow folder path rest =
    ((path ≡ folder) × (rest ≡ [])) ⊎ (path ≡ with_slash folder ++ rest)

-- what stands between a folder and a name in it: nothing where one of them is empty, or the folder ends in a `/`
abbrev pub slash_between : List ℕ → List ℕ → List ℕ
slash_between folder name =
    if length folder == 0 || length name == 0 || ends_with nat_eq folder (codes "/") then []
    else codes "/"

-- the path of what a folder has at this name
abbrev pub joined : List ℕ → List ℕ → List ℕ
joined folder name = folder ++ slash_between folder name ++ name
