mod FileRuns
mod Texts
