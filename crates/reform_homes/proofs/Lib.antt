mod Places
mod Gaining
mod Standing
mod Underscore
mod Temps
mod Before
