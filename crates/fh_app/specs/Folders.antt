-- A folder as a map from paths to bytes, and the files of an app in it.
use Rattle.std.specs.Prelude.{◌≡◌, ◌≢◌, ℕ, ◌≤◌, ◌++◌, List, [], ◌∷◌, codes, Option, Some, None, option_map, option_to_list, Result, Ok, Err}
use Rattle.std.specs.Ordering.{nat_cmp, match_ordering}
use Rattle.std.specs.Cmp.Lexicographic.{slice_cmp}
use Rattle.fh_base.specs.Faults.{Rose}
use Rattle.fh_exprs.specs.Pairs.{text_at}
use Rattle.fh_app.specs.declared.folder.FolderFault.{FolderFault}
use Rattle.fh_app.specs.declared.folder.FolderFault.TheVariants.{Failed}
use Rattle.fh_app.specs.declared.app.AppFiles.{AppFiles}
use Rattle.fh_app.specs.Bindings.{cut_at}
use Rattle.fh_app.specs.Functions.{function_file}

-- paths with the bytes of their files; of two with one path the first counts
abbrev pub Files : Type 0
Files = List (List ℕ × List ℕ)

-- the count never falls; a call fails only where it rose, and it rises only where a call fails
pub record HasFolderCause {T : Type 0} (before now : ℕ) (result : Result T FolderFault) : Type 0 where
  pub later : before ≤ now
  pub failed : result ≡ Err Failed → Rose before now
  pub kept : result ≢ Err Failed → now ≡ before

-- the name put into its place among names in order of bytes, where it isn't there yet
abbrev pub inserted : List ℕ → List (List ℕ) → List (List ℕ)
inserted name [] = name ∷ []
inserted name (other ∷ names) =
    match_ordering (slice_cmp nat_cmp name other) (name ∷ other ∷ names) (other ∷ names) (other ∷ inserted name names)

-- what stands before the first slash of a path, put into its place
abbrev pub with_folder : List (List ℕ) → Option (List ℕ × List ℕ) → List (List ℕ)
with_folder names None = names
with_folder names (Some cut) = inserted cut.0 names

abbrev pub folders_behind : List (List ℕ) → Files → List (List ℕ)
folders_behind names [] = names
folders_behind names (file ∷ files) = folders_behind (with_folder names (cut_at 47 file.0)) files

-- the first parts of the paths that have a slash, each once, in order of bytes
unfoldable pub folders_of : Files → List (List ℕ)
folders_of files = folders_behind [] files

-- the files of these functions in order, behind those before them; a folder without one is no function
abbrev pub function_files_behind : Files → List (List ℕ × List ℕ) → List (List ℕ) → List (List ℕ × List ℕ)
function_files_behind files done [] = done
function_files_behind files done (name ∷ names) =
    function_files_behind files
    (done ++ option_to_list (option_map (λ (bytes : List ℕ). (name, bytes)) (text_at (function_file name) files))) names

-- the files of the app in a folder
unfoldable pub app_files : Files → AppFiles
app_files files = record {
  host = text_at (codes "host.json") files;
  settings = text_at (codes "local.settings.json") files;
  functions = function_files_behind files [] (folders_of files);
}

-- what is known of files that were read from a folder, where it tells its files
abbrev pub AreFilesOf : Option Files → AppFiles → Type 0
AreFilesOf told found = (files : Files) → told ≡ Some files → found ≡ app_files files
