mod LoadedFiles
mod Walking
pub mod AddedTexts
mod Looking
mod Copied
mod Ungot
mod CopyPlans
mod FlawTexts
