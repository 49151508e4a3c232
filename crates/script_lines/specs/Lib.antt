pub mod ScriptLines
